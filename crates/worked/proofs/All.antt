-- The worked examples hold: each is proved in the crate of its definitions, and they are put together here.
-- Assumes nothing.
use Rattle.escapes.proofs.Worked.{w5}
use Rattle.addresses.proofs.Worked.{w6}
use Rattle.checkbyte.proofs.Worked.{w1, w2, w3, w4}
use Rattle.replies.proofs.Worked.{w7_data}
use Rattle.exchange.proofs.Worked.{w7_judged, w8_judged}
use Rattle.requests.proofs.Worked.{w9}
use Rattle.answers.proofs.Worked.{w10, w11}
use Rattle.devices.proofs.Worked.{w12, w13, w14}
use Rattle.worked.specs.Rows.{Rows}

pub rows : Rows
rows =
    record {
      w1 = w1;
      w2 = w2;
      w3 = w3;
      w4 = w4;
      w5 = w5;
      w6 = w6;
      w7 = w7_judged;
      w7_data = w7_data;
      w8 = w8_judged;
      w9 = w9;
      w10 = w10;
      w11 = w11;
      w12 = w12;
      w13 = w13;
      w14 = w14;
    }

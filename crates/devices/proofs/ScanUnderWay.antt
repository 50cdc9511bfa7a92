-- A whole scan under way: what holds after every request that found a device, and what the scan comes to at its end.
-- Assumes nothing.
use Rattle.std.specs.Prelude.{Ok}
use mathlib.Core.Path.{◌≡◌, refl, sym, ap, ap₂, ◌∙◌, subst}
use mathlib.Core.Bool.{Bool, true}
use mathlib.Core.List.{List, ◌∷◌, ◌++◌}
use mathlib.Mathlib.Logic.Function.Defs.{const}
use Prim.Native.Nat.{ℕ, zero, suc, ◌+◌, ◌-◌, ◌*◌, ◌≤◌, ◌<◌}
use native.Mathlib.Numerals.{add-one}
use native.Mathlib.Nat.{zero-add, sub-zero}
use native.Mathlib.Omega.{arith}
use lib.Dec.{eqb}
use lib.ListN.{length, set, drop, length-set}
use lib.Seq.{sets, sets-eq}
use borrow.Author.Tests.{ne_eqb}
use Rattle.lists.specs.Choice.{pick}
use Rattle.lists.specs.Starting.{starting}
use Rattle.requests.specs.declared.Request.{Request}
use Rattle.requests.specs.declared.Request.TheVariants.{Start, Continue}
use Rattle.table.specs.Table.{Table, devices, most_devices, columns, valid}
use Rattle.turns.specs.Request.{Turn, windows, standing, respond}
use Rattle.turns.specs.Inner.{Writable}
use Rattle.devices.specs.WholeScan.{onward, scan_from, serials_heard, addresses_heard, fill_heard, closing, GivesScan, concluded}
use Rattle.lists.specs.Tests.{how_many}
use Rattle.turns.specs.declared.Answer.{Answer}
use Rattle.turns.specs.declared.Answer.TheVariants.{Silence, Found, End}
use Rattle.devices.specs.declared.Scanned.{Scanned}
use Rattle.devices.specs.declared.Scanned.TheVariants.{Complete, Nobody, Unfinished}
use Rattle.turns.proofs.TurnCases.{by_answer}
use Rattle.turns.proofs.TurnKeeps.{standing_valid, standing_devices, respond_valid, respond_devices, respond_writable}
use Rattle.lists.proofs.Counting.{is_marked, how_many_length, how_many_cleared}
use Rattle.table.proofs.Meaning.{tested}
use Rattle.devices.proofs.ScanSteps.{answered, Finish, finish, finished, finish_found, finish_ended, finish_silent, finish_none, respond_more}

-- the request after so many
abbrev pub request_after : ℕ → Request
request_after sent = pick (eqb sent 0) Start Continue

after_first : (sent : ℕ) → request_after (sent + 1) ≡ Continue
after_first sent = ap (λ (b : Bool). pick b Start Continue) (ne_eqb (sent + 1) 0 (λ e. omega arith))

-- ---- a scan hears of at most as many devices as there are

unfoldable Few : Table → ℕ → List Turn → Type 0
Few t already turns = (length (serials_heard turns) + already ≤ devices t) × (length (addresses_heard turns) ≡ length (serials_heard turns))

few_marks : (request : Request) (t : Table) → valid t ≡ true → how_many is_marked (standing request t).marks ≤ devices t
few_marks request t v =
    omega (arith, how_many_length is_marked (standing request t).marks, (tested (standing request t) (standing_valid request t v)).marks_long, standing_devices request t)

heard_few : (k : ℕ) (request : Request) (t : Table) → valid t ≡ true → Few t (how_many is_marked (standing request t).marks) (scan_from k request t)
unfolding Few scan_from serials_heard addresses_heard
heard_few zero request t v = (omega (arith, few_marks request t v), refl)
heard_few (suc k) request t v =
    by_answer (λ (a : Answer). Few t (how_many is_marked (standing request t).marks) (answered (respond request t) a ∷ onward a (scan_from k Continue (respond request t).table)))
    (respond request t).answer
    (λ e. (omega (arith, few_marks request t v), refl))
    (λ d s a e.
    let later = heard_few k Continue (respond request t).table (respond_valid request t v) in
    (omega (arith, later.0, (respond_more request t v d s a e).0, respond_devices request t), ap suc later.1))
    (λ d e. (omega (arith, few_marks request t v), refl))

-- the lists as the call leaves them
put_first : (heard old : List ℕ) → length heard ≤ length old → sets old 0 heard ≡ starting heard old
put_first heard old h =
    let room : 0 + length heard ≤ length old = omega arith in
    sets-eq heard old 0 room ∙ ap (λ (n : ℕ). heard ++ drop n old) (zero-add (length heard))

-- ---- under way

module _ (cap : ℕ) (serials addresses marks₀ fs₀ fa₀ : List ℕ) where
  abbrev pub whole : List Turn
  whole = scan_from cap Start (columns serials addresses marks₀)

  pub record Going (marks fs fa : List ℕ) (sent fill : ℕ) : Type 0 where
    pub under : sent ≤ cap
    pub marks_kept : length marks ≡ length marks₀
    pub serials_kept : length fs ≡ length fs₀
    pub addresses_kept : length fa ≡ length fa₀
    pub right : valid (columns serials addresses marks) ≡ true
    pub so_many : how_many is_marked (standing (request_after sent) (columns serials addresses marks)).marks ≡ sent
    -- an answer stands behind at most 32 FF
    pub fill_few : fill ≤ windows * sent
    pub same : finish sent fill fs fa (columns serials addresses marks) (scan_from (cap - sent) (request_after sent) (columns serials addresses marks)) ≡ finish 0 0 fs₀ fa₀ (columns serials addresses marks₀) whole

  pub going_start : valid (columns serials addresses marks₀) ≡ true → Going marks₀ fs₀ fa₀ 0 0
  going_start v =
      record {
        under = omega arith;
        marks_kept = refl;
        serials_kept = refl;
        addresses_kept = refl;
        right = v;
        so_many = how_many_cleared (length marks₀);
        fill_few = omega arith;
        same = ap (λ (n : ℕ). finish 0 0 fs₀ fa₀ (columns serials addresses marks₀) (scan_from n Start (columns serials addresses marks₀))) (sub-zero cap);
      }

  -- what the call gives, from what the scan comes to
  abbrev Given : Scanned → List ℕ → List ℕ → Table → Type 0
  Given scanned fs fa t = GivesScan (const ℕ) (concluded fs₀ fa₀ (columns serials addresses marks₀) whole) (Ok scanned) fs fa t

  module _ (v₀ : valid (columns serials addresses marks₀) ≡ true) (room : length serials ≤ length fs₀) (room' : length serials ≤ length fa₀) where
    given : (scanned : Scanned) (fs fa : List ℕ) (t : Table) → finished scanned fs fa t ≡ finish 0 0 fs₀ fa₀ (columns serials addresses marks₀) whole → Given scanned fs fa t
    unfolding Few
    given scanned fs fa t e =
        let few = heard_few cap Start (columns serials addresses marks₀) v₀ in
        record {
          result = ap (λ (x : Finish). Ok x.scanned) e ∙ ap₂ (λ (n f : ℕ). Ok (closing whole n f)) (zero-add (length whole)) (zero-add (fill_heard whole));
          serials_are = ap (λ (x : Finish). x.serials) e ∙ put_first (serials_heard whole) fs₀ (omega (arith, few.0));
          addresses_are = ap (λ (x : Finish). x.addresses) e ∙ put_first (addresses_heard whole) fa₀ (omega (arith, few.0, few.1));
          table_is = ap (λ (x : Finish). x.table) e;
        }

    module _ (marks fs fa : List ℕ) (sent fill : ℕ) (g : Going marks fs fa sent fill) where
      pub going_capped : cap ≤ sent → Given (Unfinished cap fill) fs fa (columns serials addresses marks)
      going_capped h =
          let none : cap - sent ≡ 0 = omega arith in
          let all : sent ≡ cap = omega (arith, g.under) in
          subst (λ (n : ℕ). Given (Unfinished n fill) fs fa (columns serials addresses marks)) all
          (given (Unfinished sent fill) fs fa (columns serials addresses marks)
          (sym (ap (λ (n : ℕ). finish sent fill fs fa (columns serials addresses marks) (scan_from n (request_after sent) (columns serials addresses marks))) none
          ∙ finish_none sent fill fs fa (request_after sent) (columns serials addresses marks)) ∙ g.same))

      -- so few FF are counted that those of an answer more can be added
      pub going_fill : (dominant : ℕ) → dominant ≤ windows → fill + dominant ≤ windows * (most_devices + 1)
      going_fill dominant few =
          let t = columns serials addresses marks in
          let sent_few : sent ≤ most_devices = omega (arith, g.so_many, few_marks (request_after sent) t g.right, (tested t g.right).few) in
          omega (arith, sent_few, g.fill_few)

      module _ (more : sent < cap) (request : Request) (is : request ≡ request_after sent) where
        one_more : finish sent fill fs fa (columns serials addresses marks) (scan_from (suc (cap - (sent + 1))) request (columns serials addresses marks)) ≡ finish 0 0 fs₀ fa₀ (columns serials addresses marks₀) whole
        one_more =
            let left : suc (cap - (sent + 1)) ≡ cap - sent = omega arith in
            ap (λ (n : ℕ). finish sent fill fs fa (columns serials addresses marks) (scan_from n request (columns serials addresses marks))) left
            ∙ ap (λ (r : Request). finish sent fill fs fa (columns serials addresses marks) (scan_from (cap - sent) r (columns serials addresses marks))) is ∙ g.same

        pub ended_few : (dominant : ℕ) → (respond request (columns serials addresses marks)).answer ≡ End dominant → dominant ≤ windows
        ended_few dominant e = subst Writable e (respond_writable request (columns serials addresses marks) g.right)

        -- the last request: the table afterwards is the one that it left
        module _ (after : Table) (left : after ≡ (respond request (columns serials addresses marks)).table) where
          pub going_ended : (dominant : ℕ) → (respond request (columns serials addresses marks)).answer ≡ End dominant → Given (Complete (sent + 1) (fill + dominant)) fs fa after
          going_ended dominant e =
              subst (Given (Complete (sent + 1) (fill + dominant)) fs fa) (sym left)
              (given (Complete (sent + 1) (fill + dominant)) fs fa (respond request (columns serials addresses marks)).table
              (sym (finish_ended sent fill (cap - (sent + 1)) fs fa request (columns serials addresses marks) dominant e) ∙ one_more))

          pub going_silent : (respond request (columns serials addresses marks)).answer ≡ Silence → Given (Nobody (sent + 1) fill) fs fa after
          going_silent e =
              subst (Given (Nobody (sent + 1) fill) fs fa) (sym left)
              (given (Nobody (sent + 1) fill) fs fa (respond request (columns serials addresses marks)).table
              (sym (finish_silent sent fill (cap - (sent + 1)) fs fa request (columns serials addresses marks) e) ∙ one_more))

        module _ (dominant serial address : ℕ) (found : (respond request (columns serials addresses marks)).answer ≡ Found dominant serial address) where
          standing_marks : how_many is_marked (standing request (columns serials addresses marks)).marks ≡ sent
          standing_marks = ap (λ (r : Request). how_many is_marked (standing r (columns serials addresses marks)).marks) is ∙ g.so_many

          pub found_few : dominant ≤ windows
          found_few = (subst Writable found (respond_writable request (columns serials addresses marks) g.right)).0

          -- there was a device left, so there is room for it
          pub going_room : sent < length serials
          going_room = omega (arith, standing_marks, (respond_more request (columns serials addresses marks) g.right dominant serial address found).1)

          pub going_on : (marks' : List ℕ) → columns serials addresses marks' ≡ (respond request (columns serials addresses marks)).table
              → length marks' ≡ length marks → Going marks' (set fs sent serial) (set fa sent address) (sent + 1) (fill + dominant)
          going_on marks' m long =
              record {
                under = omega arith;
                marks_kept = long ∙ g.marks_kept;
                serials_kept = length-set fs sent serial ∙ g.serials_kept;
                addresses_kept = length-set fa sent address ∙ g.addresses_kept;
                right = subst (λ (x : Table). valid x ≡ true) (sym m) (respond_valid request (columns serials addresses marks) g.right);
                so_many =
                    ap (λ (r : Request). how_many is_marked (standing r (columns serials addresses marks')).marks) (after_first sent)
                    ∙ ap (λ (x : Table). how_many is_marked x.marks) m
                    ∙ (respond_more request (columns serials addresses marks) g.right dominant serial address found).0
                    ∙ ap (λ (n : ℕ). n + 1) standing_marks;
                fill_few = omega (arith, g.fill_few, found_few);
                same =
                    ap (λ (r : Request). finish (sent + 1) (fill + dominant) (set fs sent serial) (set fa sent address) (columns serials addresses marks') (scan_from (cap - (sent + 1)) r (columns serials addresses marks'))) (after_first sent)
                    ∙ ap (λ (x : Table). finish (sent + 1) (fill + dominant) (set fs sent serial) (set fa sent address) x (scan_from (cap - (sent + 1)) Continue x)) m
                    ∙ ap (λ (n : ℕ). finish n (fill + dominant) (set fs sent serial) (set fa sent address) (respond request (columns serials addresses marks)).table (scan_from (cap - (sent + 1)) Continue (respond request (columns serials addresses marks)).table)) (add-one sent)
                    ∙ sym (finish_found sent fill (cap - (sent + 1)) fs fa request (columns serials addresses marks) dominant serial address found)
                    ∙ one_more;
              }

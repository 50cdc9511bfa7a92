-- `crc7::crc7` meets its contract. The loop's invariant: the register over all characters is what it gives over the part not yet
-- read. Assumes nothing.
use Rattle.crc7.proofs.Character.{Running}
use Rattle.crc7.proofs.crc7.Given as goal

abbrev pub invariant-loop-character : goal.invariant-loop-character
invariant-loop-character l = Running l.characters l.register l.character-index

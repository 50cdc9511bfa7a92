-- Demand 3 (rule D9), as one claim about any list of calls: starts, continues, raw frames offered to the devices, and whole
-- scans. The first three are `ask` of what they read as (`start`, `continue` and `offer` of Calls.antt), so what is said of
-- `ask read` is said of a start with `read` = `Ok Start`, of a continue with `Ok Continue`, and of an offered frame with
-- what the request reader finds in it. Each field has beside it what it says. The proof is in proofs/Demand3.antt; nothing
-- here needs it to be read.
-- Assumes nothing.
use Rattle.std.specs.Prelude.{◌≡◌, true, List, [], ◌∷◌, ◌++◌, map, ℕ, ◌+◌, ◌*◌, ◌≤◌, ◌<◌, min, ltb, eqb, length, get_or, take, drop, replicate, Some, None, Result, Ok}
use Rattle.lists.specs.Choice.{pick}
use Rattle.lists.specs.Starting.{starting}
use Rattle.refusal.specs.declared.Refusal.{Refusal}
use Rattle.arbitration.specs.Contest.{remaining, dominant_windows}
use Rattle.arbitration.specs.Smallest.{zero_bits}
use Rattle.answers.specs.Layout.{found_frame, end_frame}
use Rattle.answers.specs.Reading.{fill, read_answer}
use Rattle.requests.specs.declared.Request.{Request}
use Rattle.requests.specs.declared.Request.TheVariants.{Start, Continue}
use Rattle.answers.specs.declared.AnswerRead.TheVariants.{Found, End}
use Rattle.table.specs.Table.{Table, devices, marked, valid}
use Rattle.turns.specs.Request.{Turn, key, keys, windows, standing, respond}
use Rattle.devices.specs.Calls.{Answering, answer_bytes, ask_call}
use Rattle.devices.specs.WholeScan.{Scanning, scan_call, serials_heard}
use Rattle.turns.specs.Rank.{rank}
use Rattle.turns.specs.declared.Answer.{Answer}
use Rattle.turns.specs.declared.Answer.TheVariants.{Found as FoundAnswer, End as EndAnswer}
use Rattle.devices.specs.declared.Scanned.TheVariants.{Complete, Unfinished}
use Rattle.sequence.specs.Calls.{Call, ask, scan, step, table_of, turns_of, lent, lent_after, refusal_of, after, history, Linked, counted, since_start, named, refusal_due}

abbrev pub serial_at : Table → ℕ → ℕ
serial_at t place = get_or t.serials place 0

abbrev pub address_at : Table → ℕ → ℕ
address_at t place = get_or t.addresses place 0

abbrev pub mark_at : Table → ℕ → ℕ
mark_at t place = get_or t.marks place 0

-- ---- what is due to a request

-- Rule D9: the device whose serial is the k-th smallest answers.
pub record FoundDue (t : Table) (k : ℕ) (answer : Answer) : Type 0 where
  -- where it stands in the table
  pub place : ℕ
  pub inside : place < devices t
  -- k - 1 serials are smaller
  pub kth : rank t place + 1 ≡ k
  -- its bytes: an FF for each zero bit of its unscanned key, which are the windows that it made dominant, then its frame
  pub written : answer_bytes answer ≡ replicate (zero_bits windows (key 0 (serial_at t place))) fill ++ found_frame (serial_at t place) (address_at t place)
  -- read by the answer reader, it is that serial and that address, behind those FF
  pub read : read_answer (answer_bytes answer) ≡ Ok (Found (zero_bits windows (key 0 (serial_at t place))) (serial_at t place) (address_at t place))

-- Rule D9: the end, which the device with the smallest serial speaks.
pub record EndDue (t : Table) (answer : Answer) : Type 0 where
  -- where that device stands in the table
  pub place : ℕ
  pub inside : place < devices t
  -- no serial is smaller
  pub smallest : rank t place ≡ 0
  -- its bytes: an FF for each zero bit of its scanned key, then the frame of the end
  pub written : answer_bytes answer ≡ replicate (zero_bits windows (key 1 (serial_at t place))) fill ++ end_frame
  -- read by the answer reader, it is the end, behind those FF
  pub read : read_answer (answer_bytes answer) ≡ Ok (End (zero_bits windows (key 1 (serial_at t place))))

-- Rule D9: what is due to request m, counted from the last start on, by the table that it met. The first n requests find a
-- device each and all later ones the end; 0 stands for no start yet, to which nothing more is due.
abbrev pub Due : Table → ℕ → Answer → Type 0
Due t m answer = (0 < m → m ≤ devices t → FoundDue t m answer) × (devices t < m → EndDue t answer)

-- Rules D3 and D9: the contest that gave an answer leaves one device, and it is that device which answers.
pub record Contested (contending : Table) (answer : Answer) : Type 0 where
  -- where it stands in the table
  pub place : ℕ
  pub inside : place < devices contending
  -- its key remains after all windows, and no second one beside it
  pub alone : remaining windows (keys contending) ≡ key (mark_at contending place) (serial_at contending place) ∷ []
  -- an unscanned one names itself, a scanned one is the end; as many FF as windows were dominant
  pub answers : answer ≡ pick (eqb (mark_at contending place) 0) (FoundAnswer (dominant_windows windows (keys contending)) (serial_at contending place) (address_at contending place)) (EndAnswer (dominant_windows windows (keys contending)))
  pub written : answer_bytes answer ≡ replicate (dominant_windows windows (keys contending)) fill
      ++ pick (eqb (mark_at contending place) 0) (found_frame (serial_at contending place) (address_at contending place)) end_frame
  -- and the answer reader counts as many, and finds that device, or the end (rule F5)
  pub read : read_answer (answer_bytes answer)
      ≡ Ok (pick (eqb (mark_at contending place) 0) (Found (dominant_windows windows (keys contending)) (serial_at contending place) (address_at contending place)) (End (dominant_windows windows (keys contending))))

-- ---- what a whole scan gives that is not refused (rules D8, D9)

-- how many windows were dominant in the contest of a turn, and in the contests of all of them together
abbrev pub dominant_in : Turn → ℕ
dominant_in turn = dominant_windows windows (keys (standing turn.request turn.met))

unfoldable pub dominant_over : List Turn → ℕ
dominant_over [] = 0
dominant_over (turn ∷ turns) = dominant_in turn + dominant_over turns

pub record ScanDue (t : Table) (cap : ℕ) (serials addresses : List ℕ) (given : Scanning) : Type 0 where
  -- it sends a start, then continues, min(cap, n + 1) requests in all
  pub requests : map (λ (turn : Turn). turn.request) given.turns ≡ take cap (Start ∷ replicate (devices t) Continue)
  -- so many are its turns
  pub sent : length given.turns ≡ min cap (devices t + 1)
  -- and they are the count from then on, whatever it was before; with cap 0 there is none, and the count stays
  pub counts : 0 < cap → (m : ℕ) → since_start m given.turns ≡ min cap (devices t + 1)
  -- it is Complete where the cap allows n + 1 requests, and else Unfinished; the first number is the number sent, the second counts
  -- the FF of all answers, the end's included: one for each window that was dominant in their contests
  pub scanned : given.scanned ≡ Ok (pick (ltb (devices t) cap) (Complete (devices t + 1) (dominant_over given.turns)) (Unfinished cap (dominant_over given.turns)))
  -- which are at most 32 for each request
  pub skipped_most : dominant_over given.turns ≤ 32 * length given.turns
  -- it names min(cap, n) serials
  pub names : length (serials_heard given.turns) ≡ min cap (devices t)
  -- entry k is the device of rank k: its serial in the one list, its address at the same place of the other
  pub entries : (k : ℕ) → k < min cap (devices t)
      → (place : ℕ) × (place < devices t) × (rank t place ≡ k) × (get_or given.serials k 0 ≡ serial_at t place) × (get_or given.addresses k 0 ≡ address_at t place)
  -- the lists keep their lengths
  pub serials_long : length given.serials ≡ length serials
  pub addresses_long : length given.addresses ≡ length addresses
  -- both lists keep what they held behind the entries
  pub serials_behind : drop (min cap (devices t)) given.serials ≡ drop (min cap (devices t)) serials
  pub addresses_behind : drop (min cap (devices t)) given.addresses ≡ drop (min cap (devices t)) addresses
  -- reading the bytes of each answer gives exactly the entry, or the end, that the scan reports for that request, and counts the
  -- windows that were dominant in its contest, so that the scan's sum is the sum over what is read
  pub read : (earlier later : List Turn) (turn : Turn) → given.turns ≡ earlier ++ turn ∷ later
      → read_answer (answer_bytes turn.answer)
      ≡ Ok (pick (ltb (length earlier) (devices t)) (Found (dominant_in turn) (get_or given.serials (length earlier) 0) (get_or given.addresses (length earlier) 0)) (End (dominant_in turn)))

-- ---- what a start, a continue or an offered frame gives that is not refused (rules D4 to D7, D9)

pub record AskDue (t : Table) (m : ℕ) (request : Request) (buffer : List ℕ) (given : Answering) : Type 0 where
  -- it makes that one request
  pub made : given.turns ≡ respond request t ∷ []
  -- the buffer starts with the answer, the bytes behind it stay
  pub holds : given.buffer ≡ starting (answer_bytes (respond request t).answer) buffer
  -- its length is answered
  pub answered : given.response ≡ Ok (Some (length (answer_bytes (respond request t).answer)))
  -- the answer is what is due to the request by its number
  pub due : Due t m (respond request t).answer

-- ---- rule D9, after any list of calls, refused ones included: t is the table before them and now the one after them, past is
-- all turns that they made, and m how many requests they made from the last start on, itself included

pub record Holds (t now : Table) (past : List Turn) (m : ℕ) : Type 0 where
  -- no call writes to serials or addresses
  pub serials_stay : now.serials ≡ t.serials
  pub addresses_stay : now.addresses ≡ t.addresses
  -- and the marks stay 0 or 1, one for each device
  pub stays_valid : valid now ≡ true
  -- each request is the one operation on the table that those before it left, also one before the first start, which is not
  -- counted
  pub rules : Linked t past now
  -- so each of them met those serials and addresses
  pub met_stays : (earlier later : List Turn) (turn : Turn) → past ≡ earlier ++ turn ∷ later → turn.met ≡ marked t turn.met.marks
  -- which call is refused next, with what number and place, and no other is
  pub refusals : (call : Call) → refusal_of (step call now) ≡ refusal_due (devices t) call
  -- a refused one makes no request and changes nothing that it was lent
  pub unchanged : (call : Call) (why : Refusal) → refusal_due (devices t) call ≡ Some why
      → (turns_of (step call now) ≡ []) × (lent_after (step call now) ≡ lent call) × (table_of (step call now) ≡ now)
  -- a start, a continue or an offered frame made next that is not refused answers the request that it reads as
  pub answers : (read : Result Request Refusal) (request : Request) (buffer : List ℕ) → read ≡ Ok request → refusal_due (devices t) (ask read buffer) ≡ None
      → AskDue now (counted m request) request buffer (ask_call read buffer now)
  -- a whole scan made next
  pub scans : (cap : ℕ) (serials addresses : List ℕ) → refusal_due (devices t) (scan cap serials addresses) ≡ None
      → ScanDue now cap serials addresses (scan_call cap serials addresses now)
  -- every request made before was answered as was due, whichever call made it
  pub history_due : (earlier later : List Turn) (turn : Turn) → past ≡ earlier ++ turn ∷ later
      → Due turn.met (since_start 0 (earlier ++ turn ∷ [])) turn.answer
  -- and by one device alone: no second one ever remains
  pub contests : (earlier later : List Turn) (turn : Turn) → past ≡ earlier ++ turn ∷ later → Contested (standing turn.request turn.met) turn.answer
  -- the marks: 1 for a device that fewer than m serials are smaller than, 0 for every other. Ranks are below n, so with more
  -- than n requests all are marked
  pub marks : 0 < m → (i : ℕ) → i < devices t
      → get_or now.marks i 0 ≡ pick (ltb (rank t i) m) 1 0
  -- each serial is named once, rising: since the last start min(m, n) serials were named
  pub names : 0 < m → length (named [] past) ≡ min m (devices t)
  -- each stands in the place of its rank
  pub each_named : 0 < m → (i : ℕ) → i < devices t → rank t i < m
      → get_or (named [] past) (rank t i) 0 ≡ serial_at t i
  -- and every later one is larger
  pub rising : 0 < m → (j k : ℕ) → j < k → k < length (named [] past)
      → get_or (named [] past) j 0 < get_or (named [] past) k 0
  -- no device is left out: every rank is below n
  pub ranked : (i : ℕ) → i < devices t → rank t i < devices t

-- Rule D9: for a valid table of 1 to 247 devices with any marks, and any list of calls.
abbrev pub Demand3 : Type 0
Demand3 = (t : Table) → valid t ≡ true → 0 < devices t → (calls : List Call) → Holds t (after calls t) (history calls t) (since_start 0 (history calls t))

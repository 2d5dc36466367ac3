-- A stream has one reading, however its bytes arrive. (02, M-107.)
use mathlib.Core.Path.{◌≡◌, refl, sym, ap, ◌∙◌}
use mathlib.Core.Logic.{◌≢◌}
use mathlib.Core.List.{List, [], ◌∷◌, ◌++◌, map}
use Prim.Native.Nat.{ℕ, zero, suc, ◌≤◌}
use lib.ListN.{length, drop}
use lib.Seq.{drop_at}
use Rattle.keyboard.specs.Words.{Key, Received, Pressed, More, Refused}
use Rattle.keyboard.specs.Rules.Keyboard.{bytes_of, received}
use Rattle.keyboard.specs.Rules.Streams.{a_key, behind, then, turns, reading, reading_pieces, joined}
use Rattle.keyboard.specs.Rules.Streams.{host, arrive_all, press_all, keys_in}
use Rattle.keyboard.proofs.Laws.Answers.{read_back}
use Rattle.keyboard.proofs.Laws.Hosts.{all-arrived}
use Rattle.keyboard.proofs.Laws.Streams.{reading-on, waiting-more, pieces-on}
use Rattle.keyboard.proofs.Theorems.Readings.{reads-exactly, more-short}

-- Keys, refusals and the bytes that wait are a function of the bytes alone: pieces read as the stream that they make.
pub one-reading : (pieces : List (List ℕ)) → reading_pieces pieces ≡ reading (joined pieces)
unfolding received
one-reading pieces = pieces-on [] pieces refl

-- So two ways to cut a stream give the same keys, the same refusals and the same bytes that wait.
pub cuts-alike : (some others : List (List ℕ)) → joined some ≡ joined others → reading_pieces some ≡ reading_pieces others
cuts-alike some others same = one-reading some ∙ ap reading same ∙ sym (one-reading others)

-- A reading goes on as long as there is an answer: what is left waits for more, and is at most two bytes.
pub rest-waits : (s : List ℕ) → received (reading s).waiting ≡ More
rest-waits s = waiting-more s

pub rest-short : (s : List ℕ) → length (reading s).waiting ≤ 2
rest-short s = more-short (reading s).waiting (waiting-more s)

-- ---- Keys sent

abbrev pub AllSent : List Key → Type 0
AllSent [] = Unit
AllSent (k ∷ ks) = (bytes_of k ≢ []) × AllSent ks

-- The bytes of keys, one behind the other, read as these keys and nothing is left.
pub keys-read : (ks : List Key) → AllSent ks → reading (joined (map bytes_of ks)) ≡ record { items = map a_key ks; waiting = [] }
unfolding joined reading turns
keys-read [] sent = refl
keys-read (k ∷ ks) sent =
    let rest = joined (map bytes_of ks) in
    reading-on (bytes_of k ++ rest)
    ∙ ap (λ a. then a (bytes_of k ++ rest) reading) (read_back k rest sent.0)
    ∙ ap (λ s. behind (a_key k ∷ []) (reading s)) (drop_at (bytes_of k) rest (length (bytes_of k)) refl)
    ∙ ap (behind (a_key k ∷ [])) (keys-read ks sent.1)

-- Every key that a stream reads as is one that has bytes.
sent-at : (answer : Received) (s : List ℕ) (n : ℕ) → received s ≡ answer → ((rest : List ℕ) → AllSent (keys_in (turns n rest).items))
    → AllSent (keys_in (then answer s (turns n)).items)
unfolding keys_in
sent-at (Pressed k used) s n e later = (((reads-exactly s (Pressed k used)).0 e).sent, later (drop used s))
sent-at More s n e later = tt
sent-at (Refused code used) s n e later = later (drop used s)

turns-sent : (n : ℕ) (s : List ℕ) → AllSent (keys_in (turns n s).items)
unfolding turns keys_in
turns-sent zero s = tt
turns-sent (suc n) s = sent-at (received s) s n refl (turns-sent n)

pub read-sent : (s : List ℕ) → AllSent (keys_in (reading s).items)
unfolding reading
read-sent s = turns-sent (length s) s

-- ---- A host

-- Whatever a key does: a host that receives bytes in any pieces and presses each key as soon as it is there has, in the end, pressed the keys
-- that the stream reads as, in their order, and has the bytes left that wait.
pub host-pressed : {A : Type 0} (press : Key → A → A) (pieces : List (List ℕ)) (at : A)
    → arrive_all press pieces (host at []) ≡ host (press_all press (keys_in (reading (joined pieces)).items) at) (reading (joined pieces)).waiting
host-pressed press pieces at =
    all-arrived press pieces (host at []) ∙ ap (λ r. host (press_all press (keys_in r.items) at) r.waiting) (one-reading pieces)

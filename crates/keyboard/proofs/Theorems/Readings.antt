-- What bytes received so far give is what the table of the keys' bytes says. (02, M-107.)
use mathlib.Core.Path.{◌≡◌, refl, sym, ap, subst, ◌∙◌}
use mathlib.Core.Logic.{◌≢◌, ◌↔◌, ⊎_elim}
use mathlib.Core.Bool.{true, false}
use mathlib.Core.List.{List, [], ◌∷◌, ◌++◌, append_assoc, append-nil}
use Prim.Native.Nat.{ℕ, suc, ◌+◌, ◌≤◌}
use native.Mathlib.Omega.{arith}
use lib.ListN.{length, length-append}
use borrow.Author.Tests.{ne_eqb}
use Rattle.gap.specs.Rules.Layout.{printable}
use Rattle.gap.proofs.Laws.Tests.{cond-false}
use Rattle.keyboard.specs.Words.{Key, Received, Pressed, More, Refused}
use Rattle.keyboard.specs.Rules.Refusals.{SEQUENCE}
use Rattle.keyboard.specs.Rules.Keyboard.{escape, bytes_of, key_among, received, used_of}
use Rattle.keyboard.specs.Wording.Begun.{of_terminal, Begun, Unbegun, Broken, Gives}
use Rattle.keyboard.proofs.Laws.Table.{byte-stray}
use Rattle.keyboard.proofs.Laws.Answers.{pressed-refused, no_end, length-end, Found, among, Waits, waits-more, waits-short, waits-begun}
use Rattle.keyboard.proofs.Laws.Answers.{Decides, next-byte, Decided, looked, decided-answer, decided-longer, decided-within, decided-more}
use Rattle.keyboard.proofs.Laws.Answers.{has-bytes, of-terminal, read_back, read-alone}
use Rattle.keyboard.proofs.Laws.Streams as streams

-- ---- The keys

-- Every key that the editor has, but an insert of a byte that no text may have, has its bytes, and no other has.
pub sent-exactly : (k : Key) → (of_terminal k ≡ true) ↔ (bytes_of k ≢ [])
sent-exactly k = (has-bytes k, of-terminal k)

-- They read back as that key with all of them used, whatever follows.
pub reads-back : (k : Key) (rest : List ℕ) → of_terminal k ≡ true → received (bytes_of k ++ rest) ≡ Pressed k (length (bytes_of k))
reads-back k rest inside = read_back k rest (has-bytes k inside)

same_key : {j k : Key} {m n : ℕ} → Pressed j m ≡ Pressed k n → j ≡ k
same_key e = cc

no-rest : (rest : List ℕ) → length rest ≡ 0 → rest ≡ []
no-rest [] none = refl
no-rest (b ∷ rest) none = absurd (omega (arith, none))

-- No key's bytes begin another's: where they do, it is the same key, and nothing follows.
pub none-begins : (j k : Key) (rest : List ℕ) → bytes_of j ≢ [] → bytes_of k ≡ bytes_of j ++ rest → (j ≡ k) × (rest ≡ [])
none-begins j k rest sent split =
    let long : length (bytes_of k) ≡ length (bytes_of j) + length rest = ap length split ∙ length-append (bytes_of j) rest in
    let sent-too : bytes_of k ≢ [] = λ none. sent (no-rest (bytes_of j) (omega (arith, long, ap length none))) in
    let alike : Pressed j (length (bytes_of j)) ≡ Pressed k (length (bytes_of k)) =
    sym (read_back j rest sent) ∙ ap received (sym split) ∙ read-alone k sent-too in
    (same_key alike, no-rest rest (omega (arith, ap used_of alike, long)))

-- ---- The three answers

waits-of : (s : List ℕ) → Begun s → Waits s
waits-of s begun =
    ⊎_elim (λ waiting. waiting)
    (λ w.
    let sent : bytes_of begun.key ≢ [] = λ none. no_end s begun.rest begun.next (sym begun.split ∙ none) in
    let whole : received s ≡ Pressed begun.key (length (bytes_of begun.key)) =
    sym (decided-longer s w (begun.next ∷ begun.rest)) ∙ ap received (sym begun.split) ∙ read-alone begun.key sent in
    let long : length (bytes_of begun.key) ≡ length s + suc (length begun.rest) =
    ap length begun.split ∙ length-append s (begun.next ∷ begun.rest) in
    absurd (omega (arith, decided-within s w, ap used_of whole, long)))
    (looked s)

unbegun-at : (front : List ℕ) (byte : ℕ) (d : Decides front byte)
    → key_among (front ++ (byte ∷ [])) d.keys ≡ Refused SEQUENCE (length (front ++ (byte ∷ []))) → Unbegun (front ++ (byte ∷ []))
unbegun-at front byte d none k rest split =
    let along : bytes_of k ≡ front ++ (byte ∷ rest) = split ∙ append_assoc front (byte ∷ []) rest in
    let sent : bytes_of k ≢ [] = λ empty. no_end front rest byte (sym along ∙ empty) in
    pressed-refused (sym (read-alone k sent) ∙ ap received along ∙ d.answer rest ∙ none)

decided-gives : (s : List ℕ) (w : Decided s) → Gives s (received s)
decided-gives s w =
    let along = w.front ++ (w.byte ∷ []) in
    let whole : s ≡ along ++ w.rest = w.split ∙ sym (append_assoc w.front (w.byte ∷ []) w.rest) in
    let key : Found along (key_among along w.decides.keys) → Gives s (received s) = λ found.
    subst (Gives s) (sym (decided-answer s w ∙ found.gives))
    (record {
      sent = λ none. no_end w.front [] w.byte (sym found.same ∙ none);
      rest = w.rest;
      split = whole ∙ ap (λ x. x ++ w.rest) (sym found.same);
      count = ap length (sym found.same);
    }) in
    let stray : key_among along w.decides.keys ≡ Refused SEQUENCE (length along) → Gives s (received s) = λ none.
    subst (Gives s) (sym (decided-answer s w ∙ none))
    (record {
      number = refl;
      front = w.front;
      byte = w.byte;
      rest = w.rest;
      split = w.split;
      count = length-end w.front w.byte;
      begun = waits-begun w.front w.waits;
      unbegun = unbegun-at w.front w.byte w.decides none;
    }) in
    ⊎_elim key stray (among along w.decides.keys)

gives : (s : List ℕ) → Gives s (received s)
gives s = ⊎_elim (λ waiting. subst (Gives s) (sym (waits-more s waiting)) (waits-begun s waiting)) (λ w. decided-gives s w) (looked s)

broken-given : (s : List ℕ) (code used : ℕ) → Broken s code used → received s ≡ Refused code used
broken-given s code used b =
    let along = b.front ++ (b.byte ∷ []) in
    let on : Waits along → received s ≡ Refused code used = λ waiting.
    let more = waits-begun along waiting in absurd (b.unbegun more.key (more.next ∷ more.rest) more.split) in
    let here : Decides b.front b.byte → received s ≡ Refused code used = λ d.
    let key : Found along (key_among along d.keys) → received s ≡ Refused code used = λ found.
    absurd (b.unbegun found.key [] (found.same ∙ sym (append-nil along))) in
    let stray : key_among along d.keys ≡ Refused SEQUENCE (length along) → received s ≡ Refused code used = λ none.
    ap received b.split ∙ d.answer b.rest ∙ none
    ∙ ap (λ n. Refused SEQUENCE n) (length-end b.front b.byte ∙ sym b.count) ∙ ap (λ n. Refused n used) (sym b.number) in
    ⊎_elim key stray (among along d.keys) in
    ⊎_elim on here (next-byte b.front b.byte (waits-of b.front b.begun))

given : (s : List ℕ) (answer : Received) → Gives s answer → received s ≡ answer
given s (Pressed k used) w = ap received w.split ∙ read_back k w.rest w.sent ∙ ap (Pressed k) (sym w.count)
given s More begun = waits-more s (waits-of s begun)
given s (Refused code used) b = broken-given s code used b

-- Whatever the bytes: a key exactly when they begin with its bytes; more exactly when some key's bytes begin with them and have more;
-- SEQUENCE exactly when a byte behind such bytes is the first that no key continues. There is one answer, the same for everyone.
pub reads-exactly : (s : List ℕ) (answer : Received) → (received s ≡ answer) ↔ Gives s answer
reads-exactly s answer = (λ e. subst (Gives s) e (gives s), given s answer)

pub one_answer : (s : List ℕ) (a b : Received) → Gives s a → Gives s b → a ≡ b
one_answer s a b first second = sym (given s a first) ∙ given s b second

-- ---- How many bytes

-- More is needed for none, ESC and ESC [ alone: never for three bytes or more.
pub more-exactly : (s : List ℕ) → (received s ≡ More) ↔ Waits s
more-exactly s = (λ more. ⊎_elim (λ waiting. waiting) (λ w. absurd (decided-more s w more)) (looked s), waits-more s)

pub more-short : (s : List ℕ) → received s ≡ More → length s ≤ 2
more-short s more = waits-short s ((more-exactly s).0 more)

-- Used is 0 only where more is needed, and never above the bytes that are there.
pub some-used : (s : List ℕ) → received s ≢ More → 1 ≤ used_of (received s)
some-used s some = streams.some-used s some

pub used-within : (s : List ℕ) → used_of (received s) ≤ length s
used-within s = streams.used-within s

-- The answer stays as it is when more bytes come, as soon as it is not "more needed".
pub settled : (s t : List ℕ) → received s ≢ More → received (s ++ t) ≡ received s
settled s t some = streams.settled s t some

-- A first byte that is neither ESC nor 13 nor 127 nor 32 to 126 is refused by itself: 9, 10 and 128 up among them.
pub stray-byte : (b : ℕ) (s : List ℕ) → b ≢ escape → b ≢ 13 → b ≢ 127 → printable b ≡ false → received (b ∷ s) ≡ Refused SEQUENCE 1
unfolding received
stray-byte b s no-escape no_return no-delete out = cond-false _ _ (ne_eqb b escape no-escape) ∙ byte-stray b no_return no-delete out

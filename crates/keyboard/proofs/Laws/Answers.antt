-- What bytes received so far give, step by step: bytes that wait for more, and the byte behind them that decides.
use mathlib.Core.Path.{◌≡◌, refl, sym, ap, subst, ◌∙◌}
use mathlib.Core.Logic.{◌⊎◌, inl, inr, ◌≢◌, ⊎_elim}
use mathlib.Core.Bool.{Bool, true, false, ◌||◌, false≢true}
use mathlib.Core.List.{List, [], ◌∷◌, ◌++◌, append_assoc, append-nil}
use Prim.Native.Nat.{ℕ, suc, ◌+◌, ◌≤◌}
use native.Mathlib.Omega.{arith}
use lib.Dec.{eqb, leb}
use lib.ListN.{length, length-append}
use borrow.Author.Tests.{eqb-true, ne_eqb, leb-true}
use Rattle.gap.specs.Rules.Sequence.{same_bytes}
use Rattle.gap.specs.Rules.Strings.{bytes}
use Rattle.gap.specs.Rules.Layout.{printable, allowed}
use Rattle.gap.proofs.Laws.Tests.{decided, clash, and_left, and_right, or_cases, cond-true, cond-false}
use Rattle.gap.proofs.Laws.Sequence.{same-equal}
use Rattle.keyboard.specs.Words.{Left, Right, Move, Delete, Character, Word, LineBeginning, LineEnding, Document}
use Rattle.keyboard.specs.Words.{Key, Insert, Function, Recall, Quote, Find, Replace, Mark, Cut, Paste, Newline, Tab}
use Rattle.keyboard.specs.Words.{Received, Pressed, More, Refused}
use Rattle.keyboard.specs.Rules.Refusals.{SEQUENCE}
use Rattle.keyboard.specs.Rules.Keyboard.{escape, bracket, bytes_of, arrow_keys, letter_keys, key_among, insert_of, used_of}
use Rattle.keyboard.specs.Rules.Keyboard.{byte_received, letter_received, arrow_received, received}
use Rattle.keyboard.specs.Wording.Begun.{of_terminal, Begun}
use Rattle.keyboard.proofs.Laws.Table.{byte-printed}

or-not-left : (a b : Bool) → (a || b) ≡ false → a ≡ false
or-not-left true b e = e
or-not-left false b e = refl

or-not-right : (a b : Bool) → (a || b) ≡ false → b ≡ false
or-not-right true b e = absurd (false≢true (sym e))
or-not-right false b e = e

-- ---- Answers apart

abbrev is_pressed : Received → Bool
is_pressed (Pressed k used) = true
is_pressed More = false
is_pressed (Refused code used) = false

abbrev is_more : Received → Bool
is_more (Pressed k used) = false
is_more More = true
is_more (Refused code used) = false

pub pressed-refused : {A : Type 0} {k : Key} {used code last : ℕ} → Pressed k used ≡ Refused code last → A
pressed-refused e = absurd (false≢true (sym (ap is_pressed e)))

pub pressed-more : {k : Key} {used : ℕ} → Pressed k used ≢ More
pressed-more e = false≢true (ap is_more e)

pub refused-more : {code used : ℕ} → Refused code used ≢ More
refused-more e = false≢true (ap is_more e)

pub no_end : (s rest : List ℕ) (b : ℕ) → s ++ (b ∷ rest) ≢ []
no_end s rest b e = absurd (omega (arith, sym (length-append s (b ∷ rest)) ∙ ap length e))

pub length-end : (s : List ℕ) (b : ℕ) → length (s ++ (b ∷ [])) ≡ suc (length s)
length-end [] b = refl
length-end (a ∷ s) b = ap suc (length-end s b)

-- ---- A list of keys

-- One of the keys has exactly these bytes.
pub record Found (s : List ℕ) (answer : Received) : Type 0 where
  pub key : Key
  pub same : bytes_of key ≡ s
  pub gives : answer ≡ Pressed key (length s)

pub among : (s : List ℕ) (ks : List Key) → Found s (key_among s ks) ⊎ (key_among s ks ≡ Refused SEQUENCE (length s))
unfolding key_among
among s [] = inr refl
among s (k ∷ ks) =
    ⊎_elim
    (λ same. inl (record { key = k; same = sym (same-equal s (bytes_of k) same); gives = cond-true _ _ same }))
    (λ other. subst (λ a. Found s a ⊎ (a ≡ Refused SEQUENCE (length s))) (sym (cond-false _ _ other)) (among s ks))
    (decided (same_bytes s (bytes_of k)))

pub among-used : (s : List ℕ) (ks : List Key) → used_of (key_among s ks) ≡ length s
among-used s ks = ⊎_elim (λ found. ap used_of found.gives) (λ none. ap used_of none) (among s ks)

pub among-more : (s : List ℕ) (ks : List Key) → key_among s ks ≢ More
among-more s ks more =
    ⊎_elim (λ found. pressed-more (sym found.gives ∙ more)) (λ none. refused-more (sym none ∙ more)) (among s ks)

-- ---- Waiting and deciding

-- The bytes that wait for more.
abbrev pub Waits : List ℕ → Type 0
Waits s = (s ≡ []) ⊎ ((s ≡ escape ∷ []) ⊎ (s ≡ escape ∷ (bracket ∷ [])))

pub waits-more : (s : List ℕ) → Waits s → received s ≡ More
unfolding received
waits-more s (inl e) = ap received e
waits-more s (inr (inl e)) = ap received e
waits-more s (inr (inr e)) = ap received e

pub waits-short : (s : List ℕ) → Waits s → length s ≤ 2
waits-short s (inl e) = omega (arith, ap length e)
waits-short s (inr (inl e)) = omega (arith, ap length e)
waits-short s (inr (inr e)) = omega (arith, ap length e)

pub waits-begun : (s : List ℕ) → Waits s → Begun s
unfolding bytes_of bytes
waits-begun s (inl e) = subst Begun (sym e) (record { key = Recall; next = escape; rest = 114 ∷ []; split = refl })
waits-begun s (inr (inl e)) = subst Begun (sym e) (record { key = Recall; next = 114; rest = []; split = refl })
waits-begun s (inr (inr e)) =
    subst Begun (sym e) (record { key = Function Move Right Character; next = 67; rest = []; split = refl })

-- Behind these bytes this one decides, whatever follows.
pub record Decides (front : List ℕ) (byte : ℕ) : Type 0 where
  pub keys : List Key
  pub answer : (rest : List ℕ) → received (front ++ (byte ∷ rest)) ≡ key_among (front ++ (byte ∷ [])) keys

-- Behind bytes that wait, a byte goes on waiting or decides.
pub next-byte : (front : List ℕ) (byte : ℕ) → Waits front → Waits (front ++ (byte ∷ [])) ⊎ Decides front byte
unfolding received byte_received letter_received arrow_received
next-byte front byte (inl e) =
    subst (λ s. Waits (s ++ (byte ∷ [])) ⊎ Decides s byte) (sym e)
    (⊎_elim
    (λ same. inl (inr (inl (ap (λ b. b ∷ []) (eqb-true byte escape same)))))
    (λ other. inr (record { keys = insert_of byte ∷ (Function Delete Left Character ∷ []); answer = λ rest. cond-false _ _ other }))
    (decided (eqb byte escape)))
next-byte front byte (inr (inl e)) =
    subst (λ s. Waits (s ++ (byte ∷ [])) ⊎ Decides s byte) (sym e)
    (⊎_elim
    (λ same. inl (inr (inr (ap (λ b. escape ∷ (b ∷ [])) (eqb-true byte bracket same)))))
    (λ other. inr (record { keys = letter_keys; answer = λ rest. cond-false _ _ other }))
    (decided (eqb byte bracket)))
next-byte front byte (inr (inr e)) =
    subst (λ s. Waits (s ++ (byte ∷ [])) ⊎ Decides s byte) (sym e) (inr (record { keys = arrow_keys; answer = λ rest. refl }))

-- Any bytes wait, or one of them decides behind bytes that wait.
pub record Decided (s : List ℕ) : Type 0 where
  pub front : List ℕ
  pub byte : ℕ
  pub rest : List ℕ
  pub split : s ≡ front ++ (byte ∷ rest)
  pub waits : Waits front
  pub decides : Decides front byte

looked-on : (front s : List ℕ) → Waits front → Waits (front ++ s) ⊎ Decided (front ++ s)
looked-on front [] waits = inl (subst Waits (sym (append-nil front)) waits)
looked-on front (byte ∷ s) waits =
    ⊎_elim
    (λ longer. subst (λ x. Waits x ⊎ Decided x) (append_assoc front (byte ∷ []) s) (looked-on (front ++ (byte ∷ [])) s longer))
    (λ decides. inr (record { front = front; byte = byte; rest = s; split = refl; waits = waits; decides = decides }))
    (next-byte front byte waits)

pub looked : (s : List ℕ) → Waits s ⊎ Decided s
looked s = looked-on [] s (inl refl)

module _ (s : List ℕ) (w : Decided s) where
  pub decided-answer : received s ≡ key_among (w.front ++ (w.byte ∷ [])) w.decides.keys
  decided-answer = ap received w.split ∙ w.decides.answer w.rest

  pub decided-longer : (t : List ℕ) → received (s ++ t) ≡ received s
  decided-longer t =
      ap (λ x. received (x ++ t)) w.split
      ∙ ap received (append_assoc w.front (w.byte ∷ w.rest) t)
      ∙ w.decides.answer (w.rest ++ t)
      ∙ sym decided-answer

  pub decided-used : used_of (received s) ≡ suc (length w.front)
  decided-used = ap used_of decided-answer ∙ among-used _ w.decides.keys ∙ length-end w.front w.byte

  pub decided-within : used_of (received s) ≤ length s
  decided-within =
      let long : length s ≡ length w.front + suc (length w.rest) = ap length w.split ∙ length-append w.front (w.byte ∷ w.rest) in
      omega (arith, decided-used, long)

  pub decided-more : received s ≢ More
  decided-more more = among-more _ w.decides.keys (sym decided-answer ∙ more)

-- ---- A key's own bytes

module _ (b : ℕ) where
  -- An insert that terminals send is of 10, or of a byte that is printed.
  inserts : {A : Type 0} → allowed b ≡ true → (b ≡ 10 → A) → (eqb b 10 ≡ false → printable b ≡ true → A) → A
  inserts inside ten printed =
      ⊎_elim
      (λ same. ten (eqb-true b 10 same))
      (λ differs. printed differs (⊎_elim (λ same. clash same differs) (λ p. p) (or_cases (eqb b 10) (printable b) inside)))
      (decided (eqb b 10))

  -- Its bytes give it.
  abbrev Back : List ℕ → ℕ → Type 0
  Back rest x = received (bytes_of (Insert x) ++ rest) ≡ Pressed (Insert x) (length (bytes_of (Insert x)))

  ten-back : (rest : List ℕ) → Back rest 10
  unfolding bytes_of received byte_received key_among same_bytes
  ten-back rest = refl

  printed-back : (rest : List ℕ) → eqb b 10 ≡ false → printable b ≡ true → Back rest b
  unfolding bytes_of received
  printed-back rest differs printed =
      let low = leb-true 32 b (and_left (leb 32 b) (leb b 126) printed) in
      let high = leb-true b 126 (and_right (leb 32 b) (leb b 126) printed) in
      let one : bytes_of (Insert b) ≡ b ∷ [] = cond-false _ _ differs ∙ cond-true _ _ printed in
      subst (λ x. received (x ++ rest) ≡ Pressed (Insert b) (length x)) (sym one)
      (cond-false _ _ (ne_eqb b escape (λ e. omega (arith, e, low))) ∙ byte-printed b (λ e. omega (arith, e, low)) low high)

  insert-back : (rest : List ℕ) → allowed b ≡ true → Back rest b
  insert-back rest inside = inserts inside (λ e. subst (Back rest) (sym e) (ten-back rest)) (printed-back rest)

  insert-sent : bytes_of (Insert b) ≢ [] → allowed b ≡ true
  unfolding bytes_of
  insert-sent sent =
      let none : allowed b ≡ false → allowed b ≡ true = λ outside.
      absurd (sent (cond-false _ _ (or-not-left (eqb b 10) (printable b) outside) ∙ cond-false _ _ (or-not-right (eqb b 10) (printable b) outside)))
      in
      ⊎_elim (λ inside. inside) none (decided (allowed b))

-- Bytes that begin with those of a key give it, and it uses these: the whole table, row by row.
row : (k : Key) (rest : List ℕ) → of_terminal k ≡ true → received (bytes_of k ++ rest) ≡ Pressed k (length (bytes_of k))
unfolding bytes_of bytes received letter_received arrow_received byte_received key_among same_bytes
row (Insert b) rest inside = insert-back b rest inside
row (Function Move Left Character) rest inside = refl
row (Function Move Left Word) rest inside = refl
row (Function Move Left LineBeginning) rest inside = refl
row (Function Move Left LineEnding) rest inside = refl
row (Function Move Left Document) rest inside = refl
row (Function Move Right Character) rest inside = refl
row (Function Move Right Word) rest inside = refl
row (Function Move Right LineBeginning) rest inside = refl
row (Function Move Right LineEnding) rest inside = refl
row (Function Move Right Document) rest inside = refl
row (Function Delete Left Character) rest inside = refl
row (Function Delete Left Word) rest inside = refl
row (Function Delete Left LineBeginning) rest inside = refl
row (Function Delete Left LineEnding) rest inside = refl
row (Function Delete Left Document) rest inside = refl
row (Function Delete Right Character) rest inside = refl
row (Function Delete Right Word) rest inside = refl
row (Function Delete Right LineBeginning) rest inside = refl
row (Function Delete Right LineEnding) rest inside = refl
row (Function Delete Right Document) rest inside = refl
row Recall rest inside = refl
row Quote rest inside = refl
row (Find Left) rest inside = refl
row (Find Right) rest inside = refl
row Replace rest inside = refl
row Mark rest inside = refl
row Cut rest inside = refl
row Paste rest inside = refl
row Newline rest inside = refl
row Tab rest inside = refl

-- The keys that terminals send are those that have bytes.
pub has-bytes : (k : Key) → of_terminal k ≡ true → bytes_of k ≢ []
unfolding received
has-bytes k inside none = pressed-more (sym (row k [] inside) ∙ ap (λ s. received (s ++ [])) none)

pub of-terminal : (k : Key) → bytes_of k ≢ [] → of_terminal k ≡ true
of-terminal (Insert b) sent = insert-sent b sent
of-terminal (Function action way place) sent = refl
of-terminal Recall sent = refl
of-terminal Quote sent = refl
of-terminal (Find way) sent = refl
of-terminal Replace sent = refl
of-terminal Mark sent = refl
of-terminal Cut sent = refl
of-terminal Paste sent = refl
of-terminal Newline sent = refl
of-terminal Tab sent = refl

pub read_back : (k : Key) (rest : List ℕ) → bytes_of k ≢ [] → received (bytes_of k ++ rest) ≡ Pressed k (length (bytes_of k))
read_back k rest sent = row k rest (of-terminal k sent)

pub read-alone : (k : Key) → bytes_of k ≢ [] → received (bytes_of k) ≡ Pressed k (length (bytes_of k))
read-alone k sent = ap received (sym (append-nil (bytes_of k))) ∙ read_back k [] sent

-- The opening call: what its tests refuse, and what a text that passes them becomes in the five stores.
use Rattle.std.proofs.Common.{Option, Some, None}
use mathlib.Core.Path.{◌≡◌, sym, ap, ◌∙◌}
use mathlib.Core.Bool.{Bool, true, false, not, ◌&&◌}
use mathlib.Core.List.{List, []}
use Prim.Native.Nat.{ℕ, ◌+◌, ◌≤◌, ◌<◌}
use native.Mathlib.Omega.{arith}
use lib.Dec.{leb}
use lib.ListN.{length, take, get_or}
use lib.Seq.{length-take-le, get_or-take}
use borrow.Author.Tests.{leb-true, le-leb, lt-leb, not-true, not-false}
use Rattle.gap.specs.Rules.Doc.{Doc}
use Rattle.gap.specs.Rules.Nearest.{nearest}
use Rattle.gap.specs.Rules.Lines.{newlines, since_after}
use Rattle.gap.specs.Rules.Layout.{allowed, gapped, ungap}
use Rattle.gap.proofs.Laws.Tests.{and_left, and_right, cond-true, cond-false}
use Rattle.gap.proofs.Laws.Layout.{length-gapped, ungap-gapped}
use Rattle.editor.specs.Rules.Refusals.{SIZE, LONG, TEXT, LINE}
use Rattle.editor.specs.Rules.Plain.{quiet}
use Rattle.gap.proofs.Laws.Nearest.{nearest-same}
use Rattle.editor.specs.Rules.Bytes.{quarter, lengths_of, stores_of, opening_lengths}
use Rattle.editor.specs.Wording.Promise.{stores, Opens}
use Rattle.editor.proofs.Laws.Session.{measured}
use Rattle.window.specs.Words.{Lengths}
use Rattle.window.specs.declared.Rows.{Rows}
use Rattle.window.specs.Rules.Core.{Reply}
use Rattle.window.specs.Rules.Window.{virtual_in, window, visible}
use Rattle.window.specs.Wording.Painter.{Canvas}
use Rattle.window.specs.Rules.Core.{Lent, Called, T, tabled, start, opened_text, bad_byte, bad_line, unless_at, opened}
use Rattle.window.specs.Wording.Calls.{Texts, virtual_held, Refreshed, lent, called, unopened_reply}
use Rattle.window.proofs.Laws.Views.{tabled-facts, start_seen}

-- ---- A text newly opened

-- What the painter asks of a screen that is as tabled, before any text.
start-canvas : (H W : ℕ) (b : Lent) → tabled H W b ≡ true → (n : ℕ) → n ≤ 65536 → Canvas (start H W) n b.screen
start-canvas H W b fit n short =
    let facts = tabled-facts H W b fit in
    let tall = and_left _ _ facts.frame in
    let wide = and_right (leb 1 H && leb H 64) _ facts.frame in
    record {
      long = facts.long;
      rows = leb-true _ _ (and_right (leb 1 H) _ tall);
      columns = leb-true _ _ (and_right (leb 1 W) _ wide);
      offsets = (omega arith, omega arith);
      short = omega arith;
    }

module _ (n H W : ℕ) (b : Lent) (fit : tabled H W b ≡ true) (fits : n ≤ T b.stores) where
  abbrev text : List ℕ
  text = b.stores.text

  -- The document: all of the text lies right of the cursor.
  abbrev document : Doc
  document = record { l = []; r = take n text }

  size : length (take n text) ≡ n
  size = length-take-le n text fits

  short : 0 + length (take n text) ≤ T b.stores
  short = omega (arith, size)

  -- With lengths and stores as the editor leaves them.
  module _ {m : Lengths} {text_then recall_then held_then side_then : List ℕ} (opens : Opens m n b.stores (stores text_then recall_then held_then side_then))
      (kept : length side_then ≡ length b.stores.side) where
    main : text_then ≡ gapped (T b.stores) document
    unfolding stores_of
    main = ap (λ s. s.text) opens.stores

    lengths : m ≡ opening_lengths n
    unfolding lengths_of
    lengths = opens.lengths ∙ ap opening_lengths size

    holds : virtual_held m text_then side_then ≡ document
    unfolding virtual_in
    holds =
        (λ i. virtual_held (lengths i) (main i) side_then)
        ∙ ap (λ k. ungap 0 k (gapped (T b.stores) document)) (sym size)
        ∙ ungap-gapped (T b.stores) document short

    -- The painter may paint it.
    pub refresh-asked : Texts m text_then side_then
        × (Canvas (start H W) (length text_then) b.screen × (visible (start H W) (virtual_held m text_then side_then) ≡ true))
    refresh-asked =
        let facts = tabled-facts H W b fit in
        let sizes = measured quarter b.stores facts.stores in
        let long : length text_then ≡ T b.stores = ap length main ∙ length-gapped (T b.stores) document short in (
          record {
            document = rw lengths (omega (arith, long, fits));
            long = omega (arith, long, facts.high);
            quotation = rw lengths (omega arith);
            quarters = kept ∙ sizes.side;
          },
          (
            start-canvas H W b fit (length text_then) (omega (arith, facts.high)),
            ap (visible (start H W)) holds ∙ start_seen H W (take n text) facts.rows,
          ),
        )

    -- The reply and the five stores are those of the text opened.
    pub text-opened : {screen_then : List ℕ} {named : Option Rows}
        → Refreshed (start H W) (virtual_held m text_then side_then) b.screen named screen_then
        → called
        (record {
          answer = record { code = 0; place = 0; report = quiet; first = 1; last = H; row = 1; column = 0 };
          session = record { lengths = m; frame = start H W };
        })
        (lent text_then recall_then held_then side_then screen_then)
        ≡ opened_text n H W b
    unfolding opened_text virtual_in newlines since_after
    text-opened fresh =
        λ i. record {
          answer = record { code = 0; place = 0; report = quiet; first = 1; last = H; row = 1; column = 0 };
          session = record { lengths = opens.lengths i; frame = start H W };
          lent = record { stores = opens.stores i; screen = (fresh.screen ∙ ap (window (start H W)) holds) i };
        }

-- ---- The four tests

-- The first n bytes by themselves have the bad byte that they have in the store.
bad-byte-within : (n : ℕ) (text : List ℕ) → n ≤ length text
    → nearest (λ i. not (allowed (get_or (take n text) i 0))) (length (take n text)) 0 ≡ bad_byte n text
bad-byte-within n text fits =
    ap (λ k. nearest (λ i. not (allowed (get_or (take n text) i 0))) k 0) (length-take-le n text fits)
    ∙ nearest-same n 0 (λ j low high. ap (λ byte. not (allowed byte)) (get_or-take n text j 0 (omega arith)))

-- Sizes that pass the test are as tabled.
pub stores-fit : (H W : ℕ) (b : Lent) {ok : Bool} → ok ≡ tabled H W b → not ok ≡ false → tabled H W b ≡ true
stores-fit H W b known passed = sym known ∙ not-false _ passed

-- SIZE, then LONG, then TEXT, then LINE, each where the tests before it passed.
module _ (n H W : ℕ) (b : Lent) {ok : Bool} (known : ok ≡ tabled H W b) where
  pub size-refused : {r : Reply} → not ok ≡ true → r ≡ unopened_reply SIZE 0 → called r b ≡ opened n H W b
  unfolding opened
  size-refused bad e = ap (λ q. called q b) e ∙ sym (cond-false _ _ (sym known ∙ not-true _ bad))

  module _ (passed : not ok ≡ false) where
    pub long-refused : {r : Reply} → T b.stores < n → r ≡ unopened_reply LONG 0 → called r b ≡ opened n H W b
    unfolding opened
    long-refused over e = ap (λ q. called q b) e ∙ sym (cond-true _ _ (stores-fit H W b known passed) ∙ cond-false _ _ (lt-leb n _ over))

    module _ {found : Option ℕ} (fits : n ≤ T b.stores)
        (search : found ≡ nearest (λ i. not (allowed (get_or (take n b.stores.text) i 0))) (length (take n b.stores.text)) 0) where
      -- What comes behind the search for a bad byte.
      lines-decide : Called
      lines-decide = unless_at LINE (bad_line n b.stores.text) b (opened_text n H W b)

      bytes-decide : opened n H W b ≡ unless_at TEXT found b lines-decide
      unfolding opened lines-decide
      bytes-decide =
          cond-true _ _ (stores-fit H W b known passed) ∙ cond-true _ _ (le-leb n _ fits)
          ∙ ap (λ s. unless_at TEXT s b lines-decide) (sym (search ∙ bad-byte-within n b.stores.text fits))

      pub text-refused : {r : Reply} (i : ℕ) → found ≡ Some i → r ≡ unopened_reply TEXT i → called r b ≡ opened n H W b
      text-refused i there e = ap (λ q. called q b) e ∙ sym (bytes-decide ∙ ap (λ s. unless_at TEXT s b lines-decide) there)

      module _ (none : found ≡ None) {line : Option ℕ} (lines : line ≡ bad_line n b.stores.text) where
        line-decides : opened n H W b ≡ unless_at LINE line b (opened_text n H W b)
        unfolding lines-decide
        line-decides =
            bytes-decide ∙ ap (λ s. unless_at TEXT s b lines-decide) none ∙ ap (λ s. unless_at LINE s b (opened_text n H W b)) (sym lines)

        pub line_refused : {r : Reply} (i : ℕ) → line ≡ Some i → r ≡ unopened_reply LINE i → called r b ≡ opened n H W b
        line_refused i there e =
            ap (λ q. called q b) e ∙ sym (line-decides ∙ ap (λ s. unless_at LINE s b (opened_text n H W b)) there)

        pub text-accepted : line ≡ None → opened_text n H W b ≡ opened n H W b
        text-accepted fits = sym (line-decides ∙ ap (λ s. unless_at LINE s b (opened_text n H W b)) fits)

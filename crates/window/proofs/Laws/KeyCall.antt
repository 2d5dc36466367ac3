-- The key call: what its tests tell, what a refusal leaves, and that the editor's outcome shown through the window is `keyed`.
use Rattle.std.proofs.Common.{Option, Some, None}
use mathlib.Core.Path.{◌≡◌, refl, sym, ap, ap₂, subst, transport, ◌∙◌}
use mathlib.Core.Logic.{⊎_elim}
use mathlib.Core.Bool.{Bool, true, false, ◌&&◌, cond}
use mathlib.Core.List.{List}
use Prim.Native.Nat.{ℕ, ◌+◌, ◌-◌, ◌*◌, ◌≤◌, ◌<◌}
use native.Mathlib.Nat.{le_trans, mul-le-mul_left, mul-le-mul_right}
use native.Mathlib.Omega.{arith}
use lib.Dec.{eqb, leb}
use lib.ListN.{length, take, drop, length-append, length-take}
use lib.Seq.{length-take-le, take-add, take-append_seam, take-take}
use borrow.Author.Tests.{leb-true, eq-eqb}
use Rattle.gap.specs.Rules.Doc.{Doc}
use Rattle.gap.specs.Rules.Lines.{newlines}
use Rattle.gap.specs.Rules.Layout.{gapped, ungap}
use Rattle.gap.proofs.Laws.Tests.{and_left, and_right, and_both, cond-true, cond-false}
use Rattle.gap.proofs.Laws.Layout.{length-gapped}
use Rattle.editor.specs.Rules.Bytes.{EditorReply}
use Rattle.editor.specs.Rules.Refusals.{SIZE, SESSION}
use Rattle.editor.specs.Rules.Plain.{Plain, Did, Outcome, refused, done}
use Rattle.gap.proofs.Laws.Lines.{newlines-append, newlines-fit, since-fits}
use Rattle.editor.specs.Rules.Keys.{key}
use Rattle.editor.specs.Rules.Bytes.{Stores, quarter, quarter_of, sized, plain_of, lengths_of, stores_of, editor_ok, edited_to}
use Rattle.editor.specs.Wording.Promise.{Sound, stores}
use Rattle.editor.specs.Wording.Marks.{cuts}
use Rattle.editor.proofs.Laws.Fitting.{fitting}
use Rattle.window.specs.Words.{Lengths, Frame, Session, Key, Mode, Main, Quoted, Report}
use Rattle.window.specs.declared.Spot.{Spot}
use Rattle.window.specs.declared.Rows.{Rows}
use Rattle.window.specs.Rules.Core.{Reply}
use Rattle.window.specs.Rules.Window.{virtual, virtual_in, row_of, column_of, window, visible, policy}
use Rattle.window.specs.Rules.Core.{Lent, Called, T, rows_and_columns, tabled, session_in, is_session, shown, finished, keyed, held, lent_of}
use Rattle.window.specs.Rules.Rows.{first_row, last_row}
use Rattle.window.specs.Wording.Painter.{rows_in, Canvas}
use Rattle.window.specs.Wording.Calls.{newlines_left, LeftCounted, session_test, spot_in, visible_at, policy_at, TextsIn, Texts, virtual_held_in, virtual_held}
use Rattle.window.specs.Wording.Calls.{Refreshed, lent, called, turned_down_reply, reported}
use Rattle.window.proofs.Laws.Window.{policy-visible, Visible, visible-says}
use Rattle.window.proofs.Laws.Views.{tabled-facts, session-view, session-keyed}
use Rattle.editor.proofs.Laws.Encoding.{plain-of-encoded, session-encoded, encoded-sized, encoded-ok}
use Rattle.editor.proofs.Laws.Keeps.{key-keeps}
use Rattle.editor.proofs.Laws.Outcomes.{refusal-number, accepted}
use Rattle.editor.proofs.Theorems.LeftTexts.{LeftKept, left-kept}

-- ---- Tests

-- All lengths as tabled, by tests in another order: H and W first.
pub not-tabled : (h w : ℕ) (b : Lent) → rows_and_columns h w ≡ false → false ≡ tabled h w b
unfolding tabled
not-tabled h w b e = go (sized quarter b.stores) (rows_and_columns h w) e
  where
    go : (sizes rows : Bool) → rows ≡ false → false ≡ (sizes && (rows && eqb (length b.screen) (h * w)))
    go true rows low = sym (ap (λ t. t && eqb (length b.screen) (h * w)) low)
    go false rows low = refl

pub tabled-so : (h w : ℕ) (b : Lent) (sizes : Bool) → sizes ≡ sized quarter b.stores → rows_and_columns h w ≡ true
    → (sizes && eqb (length b.screen) (h * w)) ≡ tabled h w b
unfolding tabled
tabled-so h w b sizes e rows = ap₂ (λ t u. t && (u && eqb (length b.screen) (h * w))) e (sym rows)

-- The session test, by the editor's and the cursor's.
pub no-session : (Q : ℕ) (s : Session) (b : Stores) → editor_ok Q s.lengths b ≡ false → false ≡ session_in Q s b
no-session Q s b e = sym (ap (λ t. t && visible s.frame (virtual (plain_of Q s.lengths b))) e)

pub session-so : (Q : ℕ) (s : Session) (b : Stores) → editor_ok Q s.lengths b ≡ true
    → (spot : Spot) → spot ≡ spot_in (virtual_held_in Q s.lengths b.text b.side) → (seen : Bool) → seen ≡ visible_at s.frame spot
    → seen ≡ session_in Q s b
unfolding visible plain_of
session-so Q s b ok spot here seen e =
    e ∙ (ap (visible_at s.frame) here ∙ sym (ap (λ t. t && visible s.frame (virtual (plain_of Q s.lengths b))) ok))

-- What the session test finds, by these tests; and what it tells.
module _ (Q : ℕ) (s : Session) (b : Stores) where
  pub test-failed : session_in Q s b ≡ false → None ≡ session_test Q s b
  test-failed e = sym (cond-false _ _ e)

  pub test-passed : session_in Q s b ≡ true → {above : ℕ} → above ≡ newlines_left s.lengths.main.l b.text → Some above ≡ session_test Q s b
  test-passed e counted = ap Some counted ∙ sym (cond-true _ _ e)

passed-so : (test : Bool) {x y : ℕ} → cond test (Some x) None ≡ Some y → (test ≡ true) × (x ≡ y)
passed-so true e = (refl, cc)
passed-so false e = (cc, cc)

failed-so : (test : Bool) (x : ℕ) → cond test (Some x) None ≡ None → test ≡ false
failed-so true x e = cc
failed-so false x e = refl

module _ (Q : ℕ) (s : Session) (b : Stores) {t : Option ℕ} (e : t ≡ session_test Q s b) where
  pub tested-so : {above : ℕ} → t ≡ Some above → (session_in Q s b ≡ true) × (newlines_left s.lengths.main.l b.text ≡ above)
  tested-so told = passed-so (session_in Q s b) (sym e ∙ told)

  pub tested-not : t ≡ None → session_in Q s b ≡ false
  tested-not told = failed-so (session_in Q s b) _ (sym e ∙ told)

module _ (s : Session) (b : Stores) {t : Option ℕ} (e : t ≡ session_test quarter s b) where
  pub tested-session : {above : ℕ} → t ≡ Some above → (is_session s b ≡ true) × (newlines_left s.lengths.main.l b.text ≡ above)
  unfolding is_session
  tested-session told = tested-so quarter s b e told

  pub tested-none : t ≡ None → is_session s b ≡ false
  unfolding is_session
  tested-none told = tested-not quarter s b e told

-- H times W is small.
pub product_small : (h w : ℕ) → rows_and_columns h w ≡ true → h * w ≤ 16384
product_small h w e =
    let low-high = and_left (leb 1 h && leb h 64) _ e in
    let tall = leb-true h 64 (and_right (leb 1 h) _ low-high) in
    let wide = leb-true w 256 (and_right (leb 1 w) _ (and_right (leb 1 h && leb h 64) _ e)) in
    le_trans (mul-le-mul_right w tall) (mul-le-mul_left 64 wide)

-- ---- Texts, canvas and offsets

module _ (Q : ℕ) (n : Lengths) (t c h s : List ℕ) (sound : Sound Q n (stores t c h s)) where
  pub texts-in : TextsIn Q n t s
  texts-in =
      let fits = fitting Q n (stores t c h s) sound in
      record { document = fits.document; long = fits.high; quotation = fits.quotation; quarters = fits.side }

pub texts-held : (n : Lengths) (t c h s : List ℕ) → Sound quarter n (stores t c h s) → Texts n t s
texts-held = texts-in quarter

left-short : (m : Mode) (d q : Doc) → length (virtual_in m d q).l ≤ length d.l + (2 + length q.l)
unfolding virtual_in
left-short Main d q = omega arith
left-short Quoted d q = simp length-append (omega arith)

front-short : (l r : ℕ) (s : List ℕ) → length (ungap l r s).l ≤ l
unfolding ungap
front-short l r s = simp length-take (omega arith)

-- ---- An accepted key shown

-- The outcome of an accepted key, from its parts.
abbrev pub shown_as : Report → ℕ → ℕ → Spot → Frame → Lengths → List ℕ → Stores → Called
shown_as report first last spot g n screen b =
    record {
      answer =
          record {
            code = 0;
            place = 0;
            report = report;
            first = first;
            last = last;
            row = spot.row - g.r;
            column = spot.column - g.c;
          };
      session = record { lengths = n; frame = g };
      lent = record { stores = b; screen = screen };
    }

pub row-from-one : (d : Doc) (spot : Spot) → spot ≡ spot_in d → 1 ≤ spot.row
row-from-one d spot here = omega (arith, ap (λ q. q.row) here)

-- Frame f follows the cursor of the lent texts: the spot is the cursor's, and g shows it.
module _ (f : Frame) (n : Lengths) (t s scr : List ℕ) (held : Texts n t s) (frame : rows_and_columns f.h f.w ≡ true)
    (long : length scr ≡ f.h * f.w) (spot : Spot) (here : spot ≡ spot_in (virtual_held n t s)) where
  module _ (g : Frame) (follows : g ≡ policy_at f spot) where
    rows : (1 ≤ f.h) × (f.h ≤ 64)
    rows = let e = and_left (leb 1 f.h && leb f.h 64) _ frame in (leb-true _ _ (and_left _ _ e), leb-true _ _ (and_right (leb 1 f.h) _ e))

    followed : g ≡ policy f (virtual_held n t s)
    unfolding policy
    followed = follows ∙ ap (policy_at f) here

    pub still-visible : visible g (virtual_held n t s) ≡ true
    still-visible = ap (λ q. visible q (virtual_held n t s)) followed ∙ policy-visible f (virtual_held n t s) rows.0

    says : Visible g (row_of (virtual_held n t s)) (column_of (virtual_held n t s))
    says = visible-says g (virtual_held n t s) still-visible

    pub offset-row : g.r ≤ spot.row
    offset-row = omega (arith, ap (λ q. q.row) here, says.top)

    pub offset-column : g.c ≤ spot.column
    offset-column = omega (arith, ap (λ q. q.column) here, says.left)

    pub shown-canvas : Canvas g (length t) scr
    unfolding quarter
    shown-canvas =
        let d = virtual_held n t s in
        let left = left-short n.mode (ungap n.main.l n.main.r t) (ungap n.quoted.l n.quoted.r (quarter_of quarter 0 s)) in
        let document = front-short n.main.l n.main.r t in
        let quotation = front-short n.quoted.l n.quoted.r (quarter_of quarter 0 s) in
        let wide = leb-true f.w 256 (and_right (leb 1 f.w) _ (and_right (leb 1 f.h && leb f.h 64) _ frame)) in
        let same_rows : g.h ≡ f.h = ap (λ q. q.h) follows in
        let same-columns : g.w ≡ f.w = ap (λ q. q.w) follows in
        record {
          long = long ∙ sym (ap₂ (λ h w. h * w) same_rows same-columns);
          rows = omega (arith, same_rows, rows.1);
          columns = omega (arith, same-columns, wide);
          offsets = (
            omega (arith, says.top, newlines-fit d.l, left, document, quotation, held.document, held.long, held.quotation),
            omega (arith, says.left, since-fits 0 d.l, left, document, quotation, held.document, held.long, held.quotation),
          );
          short = omega (arith, held.long);
        }

    -- The reply is what the definition shows, whatever the stores of recall text and held text hold.
    pub shows-so : (report : Report) (named : Option Rows) (new : List ℕ) → Refreshed g (virtual_held n t s) scr named new
        → (c h : List ℕ) → Sound quarter n (stores t c h s)
        → shown_as report (rows_in named).first (rows_in named).last spot g n new (stores t c h s)
        ≡ shown f (lent t c h s scr) (record { state = plain_of quarter n (stores t c h s); report = report })
    unfolding shown plain_of policy
    shows-so report named new fresh c h sound =
        let d = virtual_held n t s in
        let encoded = session-encoded quarter n (stores t c h s) sound.tabled sound.ok in
        let first = ap (λ q. q.first) fresh.rows ∙ ap (λ q. first_row q.h q.w scr (window q d)) followed in
        let last = ap (λ q. q.last) fresh.rows ∙ ap (λ q. last_row q.h q.w scr (window q d)) followed in
        let screen = fresh.screen ∙ ap (λ q. window q d) followed in
        λ i. shown_as report (first i) (last i) (here i) (followed i) (sym encoded.lengths i) (screen i) (sym encoded.stores i)

-- ---- The newlines left of the cursor

pub counted-as : {a b l m lines : ℕ} {text : List ℕ} → a ≡ b → LeftCounted a l m lines text → LeftCounted b l m lines text
counted-as {l = l} {m} {lines} {text} e counted = subst (λ above. LeftCounted above l m lines text) e counted

-- Those of the first m bytes are those of the first l and of the run between.
pub left-gained : (l m lines above between : ℕ) (text : List ℕ) → LeftCounted above l m lines text → l ≤ m
    → between ≡ newlines (take (m - l) (drop l text)) → above + between ≡ newlines_left m text
left-gained l m lines above between text counted more run =
    let whole : m ≡ l + (m - l) = omega arith in
    ap₂ (λ a b. a + b) (counted.grown more) run
    ∙ sym (ap (λ k. newlines (take k text)) whole ∙ (ap newlines (take-add l (m - l) text) ∙ newlines-append (take l text) _))

pub left-told : (l m lines above : ℕ) (text : List ℕ) → LeftCounted above l m lines text → l < m → 0 < lines → above + lines ≡ newlines_left m text
left-told l m lines above text counted more some = sym (counted.gained more some)

-- What a key leaves of the text left of the cursor, in the store that holds the document after it.
counted-left : (l r size lines : ℕ) (text : List ℕ) (e : Doc) → l + r ≤ length text → LeftKept (ungap l r text) e lines
    → LeftCounted (newlines_left l text) l (length e.l) lines (gapped size e)
unfolding ungap gapped
counted-left l r size lines text e fits kept =
    let long : length (take l text) ≡ l = length-take-le l text (omega arith) in
    let seam : take (length e.l) (gapped size e) ≡ e.l = take-append_seam e.l _ in
    record {
      grown = λ h.
          let front = take-take l (length e.l) (gapped size e) h in
          ap newlines
          (sym (sym front ∙ (ap (take l) seam ∙ (ap (λ k. take k e.l) (sym long) ∙ kept.grown (omega (arith, long, h))))));
      gained = λ h some. ap newlines seam ∙ kept.gained (omega (arith, long, h)) some;
      cut = λ h. kept.cut (omega (arith, long, h)) ∙ ap (λ s. newlines s + lines) (sym seam);
    }

-- ---- The editor's outcome

-- What the editor's reply and stores are, by the plain editor's outcome.
module _ (n : Lengths) (b after : Stores) (r : EditorReply) where
  refused-reply : (code : ℕ) → record { reply = r; stores = after } ≡ edited_to quarter n b (refused code) → (r.code ≡ code) × (after ≡ b)
  refused-reply code e = (ap (λ q. q.reply.code) e, ap (λ q. q.stores) e)

  done-reply : (did : Did Plain) → record { reply = r; stores = after } ≡ edited_to quarter n b (done did)
      → (r.lengths ≡ lengths_of did.state) × (after ≡ stores_of (length b.text) quarter did.state) × (r.report ≡ did.report)
  done-reply did e = (ap (λ q. q.reply.lengths) e, ap (λ q. q.stores) e, ap (λ q. q.reply.report) e)

-- A key refused before the editor is asked.
pub refused-size : (s : Session) (k : Key) (b : Lent) → tabled s.frame.h s.frame.w b ≡ false
    → (r : Reply) → r ≡ turned_down_reply SIZE s → called r b ≡ keyed s k b
unfolding keyed
refused-size s k b e r same = ap (λ q. called q b) same ∙ sym (cond-false _ _ e)

pub refused-session : (s : Session) (k : Key) (b : Lent) → tabled s.frame.h s.frame.w b ≡ true → is_session s b.stores ≡ false
    → (r : Reply) → r ≡ turned_down_reply SESSION s → called r b ≡ keyed s k b
unfolding keyed
refused-session s k b fit e r same = ap (λ q. called q b) same ∙ sym (cond-true _ _ fit ∙ cond-false _ _ e)

-- A session is sound for the editor.
pub session-sound : (s : Session) (b : Lent) → tabled s.frame.h s.frame.w b ≡ true → is_session s b.stores ≡ true
    → Sound quarter s.lengths b.stores
unfolding is_session
session-sound s b fit ok = record { tabled = (tabled-facts s.frame.h s.frame.w b fit).stores; ok = and_left _ _ ok }

-- What is known once the editor has done a key: record and stores are sound, the sizes are as before, showing them is `keyed`, and but for CUT
-- the newlines left of the cursor follow from those before.
pub record Accepted (s : Session) (k : Key) (b : Lent) (after : Stores) (r : EditorReply) : Type 0 where
  pub sound : Sound quarter r.lengths after
  pub fit : tabled s.frame.h s.frame.w (record { stores = after; screen = b.screen }) ≡ true
  pub shows : shown s.frame (record { stores = after; screen = b.screen }) (reported r after) ≡ keyed s k b
  pub left : cuts k ≡ false
      → LeftCounted (newlines_left s.lengths.main.l b.stores.text) s.lengths.main.l r.lengths.main.l r.report.lines after.text

module _ (s : Session) (k : Key) (b : Lent) (fit : tabled s.frame.h s.frame.w b ≡ true) (ok : is_session s b.stores ≡ true)
    (after : Stores) (r : EditorReply) where
  refused-so : (o : Outcome) → record { reply = r; stores = after } ≡ edited_to quarter s.lengths b.stores o → 0 < r.code
      → called (turned_down_reply r.code s) (record { stores = after; screen = b.screen }) ≡ finished s b o
  unfolding finished
  refused-so (refused code) e positive =
      let (number, same) = refused-reply s.lengths b.stores after r code e in
      λ i. called (turned_down_reply (number i) s) (record { stores = same i; screen = b.screen })
  refused-so (done did) e positive = absurd (omega (arith, ap (λ q. q.reply.code) e))

  -- A refusal's number is above 0, so the code tells whether the key was refused.
  pub press-refused : record { reply = r; stores = after } ≡ edited_to quarter s.lengths b.stores (key (T b.stores) quarter k (held s b.stores))
      → 0 < r.code
      → (q : Reply) → q ≡ turned_down_reply r.code s → called q (record { stores = after; screen = b.screen }) ≡ keyed s k b
  press-refused edits positive q same =
      ap (λ x. called x (record { stores = after; screen = b.screen })) same
      ∙ (refused-so (key (T b.stores) quarter k (held s b.stores)) edits positive ∙ sym (session-keyed s k b fit ok))

  done-so : (o : Outcome) → key (T b.stores) quarter k (held s b.stores) ≡ o
      → record { reply = r; stores = after } ≡ edited_to quarter s.lengths b.stores o → r.code ≤ 0 → Accepted s k b after r
  unfolding tabled shown finished plain_of lengths_of stores_of
  done-so (refused code) outcome e zero-code =
      let number = refusal-number (T b.stores) quarter k (held s b.stores) code outcome in
      let same = (refused-reply s.lengths b.stores after r code e).0 in
      absurd
      (⊎_elim (λ is_key. omega (arith, is_key, same))
      (λ other. ⊎_elim (λ is-full. omega (arith, is-full, same)) (λ is-line. omega (arith, is-line, same)) other)
      number)
  done-so (done did) outcome e zero-code =
      let (lengths, same, report) = done-reply s.lengths b.stores after r did e in
      let facts = tabled-facts s.frame.h s.frame.w b fit in
      let kept = key-keeps (T b.stores) quarter k (held s b.stores) did (session-view s b fit ok).good.sound outcome in
      let sized-so = ap (sized quarter) same ∙ encoded-sized (T b.stores) quarter did.state facts.low facts.high kept.texts in
      let ok-so = ap₂ (editor_ok quarter) lengths same ∙ encoded-ok (T b.stores) quarter did.state kept.texts kept.mark in
      let state = ap₂ (plain_of quarter) lengths same ∙ plain-of-encoded (T b.stores) quarter did.state kept.texts in
      let long = ap T same ∙ length-gapped (T b.stores) did.state.main.text kept.texts.text.fits in
      let o = shown s.frame (record { stores = after; screen = b.screen }) did in
      let (sound-key, room, lines, Did-so) = (accepted (T b.stores) quarter k (held s b.stores) did).0 outcome in
      let p = held s b.stores in
      let n = s.lengths.main in
      let document = (fitting quarter s.lengths b.stores (session-sound s b fit ok)).document in
      record {
        sound = record { tabled = sized-so; ok = ok-so };
        fit = and_both sized-so (and_both facts.frame (eq-eqb _ _ facts.long));
        shows =
            ap (shown s.frame (record { stores = after; screen = b.screen })) (λ i. record { state = state i; report = report i })
            ∙ (ap (λ t. record { answer = o.answer; session = o.session; lent = lent_of t did.state o.session.frame }) long
            ∙ (ap (finished s b) (sym outcome) ∙ sym (session-keyed s k b fit ok)));
        left = λ other.
            let left_so = subst (λ d. LeftKept p.main.text d.state.main.text d.report.lines) Did-so (left-kept k p other) in
            let counted = counted-left n.l n.r (T b.stores) did.report.lines b.stores.text did.state.main.text document left_so in
            transport
            (λ i. LeftCounted (newlines_left n.l b.stores.text) n.l (sym lengths i).main.l (sym report i).lines (sym same i).text) counted;
      }

  pub press-done : record { reply = r; stores = after } ≡ edited_to quarter s.lengths b.stores (key (T b.stores) quarter k (held s b.stores))
      → r.code ≤ 0
      → Accepted s k b after r
  press-done edits zero-code = done-so (key (T b.stores) quarter k (held s b.stores)) refl edits zero-code

-- Demand 3 at the host's boundary: opening and any list of keys in numbers, record and stores handed on as they came back.
use Rattle.std.proofs.Common.{Some}
use mathlib.Core.Path.{◌≡◌, refl, sym, ap, ◌∙◌}
use mathlib.Core.Logic.{⊎_elim}
use mathlib.Core.List.{List, [], ◌∷◌, map}
use Prim.Native.Nat.{ℕ}
use lib.ListN.{take}
use borrow.Author.Tests.{le-leb}
use Rattle.gap.proofs.Laws.Tests.{decided, cond-true, cond-false}
use Rattle.editor.specs.Rules.Refusals.{KEY}
use Rattle.editor.specs.Rules.Plain.{Plain, opening, refused}
use Rattle.editor.specs.Rules.Keys.{sound_key, key, keys}
use Rattle.editor.specs.Rules.Bytes.{quarter}
use Rattle.window.specs.Words.{Session}
use Rattle.window.specs.Rules.Core.{Lent, T, keyed}
use Rattle.window.specs.Rules.Terminal.{Bench, View, opening_view, opened_bench, struck, typed, looked, viewed, picture}
use Rattle.window.specs.Rules.Sending.{SendOutcome}
use Rattle.window.specs.Rules.Machine.{Machine, Line, opened_line, struck_line, typed_line, showing, Ready}
use Rattle.window.specs.Rules.Host.{no_mark, record_from, none, KeyNumbers, key_of, names, Given, given_of, host_opened, host_pressed}
use Rattle.window.specs.Rules.HostRun.{keys_named, HostBench, host_opened_bench, host_shown, host_struck, host_typed}
use Rattle.window.specs.Rules.HostRun.{HostLine, host_bytes, host_received, host_opened_line, host_struck_line, host_typed_line}
use Rattle.window.specs.Wording.Promise.{HostOpenPromise, HostSendAfterPromise}
use Rattle.window.specs.Wording.Promise.{HostBenchRun, host-at-end, host-press, HostLineRun, host-at-rest, host-strike}
use Rattle.window.proofs.Theorems.DemandThree.{demand-three}
use Rattle.window.proofs.Theorems.Line.{demand-three-line}
use Rattle.window.proofs.Theorems.OverAndBack.{session-over, mode-low, unnamed}
use Rattle.window.proofs.Theorems.Marks.{opening-numbered, key-numbered}
use Rattle.window.proofs.Theorems.Boundary.{in-mode}

-- ---- Handed on

-- A record that came from the core goes back to it as it was: the call in numbers is the core's. That its mark has a number of its own is so from
-- call to call.
pressed-over : (s : Session) (x : KeyNumbers) (b : Lent) → ¬ (s.lengths.mark ≡ Some no_mark)
    → host_pressed (record_from s) x b ≡ given_of (keyed s (key_of x) b)
pressed-over s x b other =
    in-mode (record_from s) x b (le-leb _ 1 (mode-low s.lengths.mode)) ∙ ap (λ s. given_of (keyed s (key_of x) b)) ((session-over s).1 other)

-- Numbers that name no key leave the view: they are an insert of byte 0, which the plain editor refuses.
none-refused : (size : ℕ) (p : Plain) → key size quarter none p ≡ refused KEY
unfolding key sound_key
none-refused size p = refl

skipped : (size : ℕ) (xs : List KeyNumbers) (v : View) → viewed size (map key_of xs) v ≡ viewed size (keys_named xs) v
unfolding viewed keys_named
skipped size [] v = refl
skipped size (x ∷ xs) v =
    ⊎_elim
    (λ named. skipped size xs _ ∙ ap (λ ks. viewed size ks v) (sym (cond-true _ _ named)))
    (λ none.
    let refuses = ap (λ k. key size quarter k v.plain) (unnamed x none) ∙ none-refused size v.plain in
    ap (λ o. viewed size (map key_of xs) (looked v o)) refuses ∙ (skipped size xs v ∙ ap (λ ks. viewed size ks v) (sym (cond-false _ _ none))))
    (decided (names x))

-- ---- A terminal that is given the named rows

abbrev in_numbers : Bench → HostBench
in_numbers at = record { given = given_of at.called; terminal = at.terminal }

struck-over : (x : KeyNumbers) (at : Bench) → ¬ (at.called.session.lengths.mark ≡ Some no_mark)
    → host_struck x (in_numbers at) ≡ in_numbers (struck (key_of x) at)
unfolding host_struck struck
struck-over x at other = ap (λ g. host_shown g at.terminal) (pressed-over at.called.session x at.called.lent other)

typed-over : (xs : List KeyNumbers) (at : Bench) → ¬ (at.called.session.lengths.mark ≡ Some no_mark)
    → host_typed xs (in_numbers at) ≡ in_numbers (typed (map key_of xs) at)
unfolding host_typed typed struck
typed-over [] at other = refl
typed-over (x ∷ xs) at other =
    ap (host_typed xs) (struck-over x at other)
    ∙ typed-over xs (struck (key_of x) at) (key-numbered at.called.session (key_of x) at.called.lent other)

-- The terminal shows the window of the plain document after the keys that the numbers name, refused ones skipped.
module _ (n H W : ℕ) (b : Lent) (accepts : (host_opened n H W b).said.code ≡ 0) where
  pub host-demand-three : (xs : List KeyNumbers)
      → ((host_typed xs (host_opened_bench n H W b)).terminal ≡ picture (viewed (T b.stores) (keys_named xs) (opening_view n H W b)))
      × ((viewed (T b.stores) (keys_named xs) (opening_view n H W b)).plain
      ≡ keys (T b.stores) quarter (keys_named xs) (opening (take n b.stores.text)))
  unfolding host_opened
  host-demand-three xs = (
    ap (λ at. at.terminal) (typed-over xs (opened_bench n H W b) (opening-numbered n H W b accepts))
        ∙ ((demand-three n H W b accepts (map key_of xs)).0 ∙ ap picture (skipped (T b.stores) xs (opening_view n H W b))),
    (demand-three n H W b accepts (keys_named xs)).1,
  )

-- ---- A terminal at the end of a line

abbrev line_in_numbers : Line → HostLine
line_in_numbers at = record { given = given_of at.called; buffer = at.buffer; terminal = at.terminal }

struck-line-over : (x : KeyNumbers) (at : Line) → ¬ (at.called.session.lengths.mark ≡ Some no_mark)
    → host_struck_line x (line_in_numbers at) ≡ line_in_numbers (struck_line (key_of x) at)
unfolding host_struck_line struck_line
struck-line-over x at other =
    ap (λ g. host_received g (host_bytes g at.buffer) at.terminal) (pressed-over at.called.session x at.called.lent other)

typed-line-over : (xs : List KeyNumbers) (at : Line) → ¬ (at.called.session.lengths.mark ≡ Some no_mark)
    → host_typed_line xs (line_in_numbers at) ≡ line_in_numbers (typed_line (map key_of xs) at)
unfolding host_typed_line typed_line struck_line
typed-line-over [] at other = refl
typed-line-over (x ∷ xs) at other =
    ap (host_typed_line xs) (struck-line-over x at other)
    ∙ typed-line-over xs (struck_line (key_of x) at) (key-numbered at.called.session (key_of x) at.called.lent other)

-- The same of a terminal that is sent the routine's bytes after each call, with its cursor; the host brings a buffer with room.
module _ (n H W : ℕ) (b : Lent) (accepts : (host_opened n H W b).said.code ≡ 0) (buffer : List ℕ) (m : Machine) (ready : Ready H W buffer m) where
  pub host-demand-three-line : (xs : List KeyNumbers)
      → ((host_typed_line xs (host_opened_line n H W b buffer m)).terminal ≡ showing (viewed (T b.stores) (keys_named xs) (opening_view n H W b)))
      × ((viewed (T b.stores) (keys_named xs) (opening_view n H W b)).plain
      ≡ keys (T b.stores) quarter (keys_named xs) (opening (take n b.stores.text)))
  unfolding host_opened host_opened_line opened_line
  host-demand-three-line xs = (
    ap (λ at. at.terminal) (typed-line-over xs (opened_line n H W b buffer m) (opening-numbered n H W b accepts))
        ∙ ((demand-three-line n H W b accepts buffer m ready (map key_of xs)).0 ∙ ap showing (skipped (T b.stores) xs (opening_view n H W b))),
    (demand-three-line n H W b accepts buffer m ready (keys_named xs)).1,
  )

-- ---- Of whatever the calls and the routine answer, if each meets its promise

run_typed : {xs : List KeyNumbers} {at end : HostBench} → HostBenchRun xs at end → end ≡ host_typed xs at
unfolding host_typed host_struck
run_typed host-at-end = refl
run_typed (host-press {xs = xs} {at = at} g promise run) = run_typed run ∙ ap (λ g. host_typed xs (host_shown g at.terminal)) promise

run-line : {xs : List KeyNumbers} {at end : HostLine} → HostLineRun xs at end → end ≡ host_typed_line xs at
unfolding host_typed_line host_struck_line
run-line host-at-rest = refl
run-line (host-strike {xs = xs} {at = at} g p key-promise promise run) =
    run-line run
    ∙ (ap (λ p. host_typed_line xs (host_received g p at.terminal)) promise
    ∙ ap (λ g. host_typed_line xs (host_received g (host_bytes g at.buffer) at.terminal)) key-promise)

module _ (n H W : ℕ) (b : Lent) (g : Given) (promise : HostOpenPromise n H W b g) (accepts : g.said.code ≡ 0) where
  pub host-terminal-shows : (xs : List KeyNumbers) (end : HostBench) → HostBenchRun xs (record { given = g; terminal = g.lent.screen }) end
      → (end.terminal ≡ picture (viewed (T b.stores) (keys_named xs) (opening_view n H W b)))
      × ((viewed (T b.stores) (keys_named xs) (opening_view n H W b)).plain
      ≡ keys (T b.stores) quarter (keys_named xs) (opening (take n b.stores.text)))
  host-terminal-shows xs end run =
      let good = ap (λ g. g.said.code) (sym promise) ∙ accepts in
      let shown = host-demand-three n H W b good xs in
      (ap (λ at. at.terminal) (run_typed run ∙ ap (λ g. host_typed xs (record { given = g; terminal = g.lent.screen })) promise) ∙ shown.0, shown.1)

  pub host-line-shows : (buffer : List ℕ) (p : SendOutcome) (m : Machine) → HostSendAfterPromise g buffer p → Ready H W buffer m
      → (xs : List KeyNumbers) (end : HostLine) → HostLineRun xs (host_received g p m) end
      → (end.terminal ≡ showing (viewed (T b.stores) (keys_named xs) (opening_view n H W b)))
      × ((viewed (T b.stores) (keys_named xs) (opening_view n H W b)).plain
      ≡ keys (T b.stores) quarter (keys_named xs) (opening (take n b.stores.text)))
  unfolding host_opened_line
  host-line-shows buffer p m send ready xs end run =
      let good = ap (λ g. g.said.code) (sym promise) ∙ accepts in
      let begun : host_received g p m ≡ host_opened_line n H W b buffer m =
      ap (λ p. host_received g p m) send ∙ ap (λ g. host_received g (host_bytes g buffer) m) promise in
      let shown = host-demand-three-line n H W b good buffer m ready xs in
      (ap (λ at. at.terminal) (run-line run ∙ ap (host_typed_line xs) begun) ∙ shown.0, shown.1)

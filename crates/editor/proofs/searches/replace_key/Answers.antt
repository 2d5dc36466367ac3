-- `replace_key` refuses exactly where FULL or LINE is due, and else substitutes, in QUOTED once the quotation was handed over as replacement.
use mathlib.Core.Path.{sym, ◌∙◌, refl}
use native.Mathlib.Omega.{arith}
use Rattle.editor.specs.Rules.Bytes.{quarter, plain_of}
use Rattle.editor.proofs.Laws.Fitting.{fitting}
use Rattle.editor.proofs.Laws.FindReplace.{pattern-stands}
use Rattle.editor.proofs.Laws.HandedOver.{replacement-holds, replace-done}
use Rattle.editor.proofs.Laws.ReplaceRoom.{taken-fits, taken-stands, stands_here, replace-refused, replace-long, replace-fits, replace-substitutes}
use Rattle.editor.proofs.searches.replace_key.Goals as goal

pub overflow_add-end : goal.overflow_add-end
unfolding quarter
overflow_add-end c = omega (arith, fitting quarter _ _ c.requires.1)

pub of-document-requires : goal.of-document-requires
of-document-requires c = (fitting quarter _ _ c.requires.1).document

pub slice_bounds-text_begins-end : goal.slice_bounds-text_begins-end
unfolding quarter
slice_bounds-text_begins-end c = omega (arith, fitting quarter _ _ c.requires.1)

pub text_begins-here-requires : goal.text_begins-here-requires
text_begins-here-requires c = omega (arith, c.of-document.ensures.lengths)

pub exchange_fits-requires : goal.exchange_fits-requires
unfolding quarter
exchange_fits-requires c =
    let fit = fitting quarter _ _ c.requires.1 in
    let (document, replacement) = taken-fits quarter _ _ c.replacement_taken-m.ensures fit in record {
      r_bound = document;
      pl_le_r = λ here. taken-stands c.args.n _ c.replacement_taken-m.ensures
          (pattern-stands quarter _ _ c.requires.1 (sym (stands_here quarter _ _ c.requires.1 _ (rw c.of-document.ensures.holds at c.text_begins-here.ensures)) ∙ here));
      xr_bound = replacement;
    }

pub returns-then-not-exchange_fits : goal.returns-then-not-exchange_fits
unfolding quarter
returns-then-not-exchange_fits c =
    λ held sound. replace-refused quarter _ _ sound (stands_here quarter _ _ sound _ (rw c.of-document.ensures.holds at c.text_begins-here.ensures)) _ c.replacement_taken-m.ensures
    c.exchange_fits.ensures
    c.if-not-exchange_fits.true refl

-- What the test of lines says, whatever the held text.
pub exchange_readable-requires : goal.exchange_readable-requires
unfolding quarter plain_of
exchange_readable-requires c = (_, _, _, c.requires.1, c.of-document.ensures.holds, rw c.of-document.ensures.holds (stands_here quarter _ _ c.requires.1 _ (rw c.of-document.ensures.holds at c.text_begins-here.ensures)))

pub returns-then-not-exchange_readable : goal.returns-then-not-exchange_readable
unfolding quarter
returns-then-not-exchange_readable c =
    λ held sound. replace-long quarter _ _ sound (stands_here quarter _ _ sound _ (rw c.of-document.ensures.holds at c.text_begins-here.ensures)) _ c.replacement_taken-m.ensures
    c.exchange_fits.ensures
    c.if-not-exchange_fits.false (sym (c.exchange_readable.ensures _ _ held sound c.of-document.ensures.holds) ∙ c.if-not-exchange_readable.true)
    refl

pub hand_quotation-requires : goal.hand_quotation-requires
unfolding quarter
hand_quotation-requires c =
    let fit = fitting quarter _ _ c.requires.1 in
    record { side_len = (fit.side, fit.quotation); quarter_bound = omega arith }

pub substitute-requires : goal.substitute-requires
unfolding quarter
substitute-requires c =
    let holds = replacement-holds quarter _ _ c.requires.1 c.replacement_taken-m.ensures c.hand_quotation.ensures in
    let (match, room, lines) = replace-substitutes quarter _ _ c.requires.1 (stands_here quarter _ _ c.requires.1 _ (rw c.of-document.ensures.holds at c.text_begins-here.ensures)) _
    c.replacement_taken-m.ensures
    c.exchange_fits.ensures c.if-not-exchange_fits.false
    (sym (c.exchange_readable.ensures _ _ _ c.requires.1 c.of-document.ensures.holds) ∙ c.if-not-exchange_readable.false) holds in
    (c.requires.0, holds.sound, record { known = match; room = room; lines = lines })

pub returns : goal.returns
unfolding quarter
returns c =
    λ held sound.
    let holds = replacement-holds quarter _ _ sound c.replacement_taken-m.ensures c.hand_quotation.ensures in
    c.substitute.ensures held holds.sound
    ∙ replace-done quarter _ _ sound holds
    (replace-fits quarter _ _ sound (stands_here quarter _ _ sound _ (rw c.of-document.ensures.holds at c.text_begins-here.ensures)) _ c.replacement_taken-m.ensures
    c.exchange_fits.ensures
    c.if-not-exchange_fits.false)
    (sym (c.exchange_readable.ensures _ _ held sound c.of-document.ensures.holds) ∙ c.if-not-exchange_readable.false)

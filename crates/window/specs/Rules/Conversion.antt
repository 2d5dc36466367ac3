-- Request M-109: the conversion of an old session, as a total function on any record, any old stores and any new side store.
use Rattle.std.specs.Prelude.{List, [], ◌∷◌, Bool, ◌&&◌, ℕ, ◌*◌, eqb, length}
use Rattle.gap.specs.Rules.Checks.{Check, check, unless}
use Rattle.window.specs.Words.{Session}
use Rattle.editor.specs.Rules.Refusals.{SIZE, SESSION}
use Rattle.editor.specs.Rules.Bytes.{Stores, quarter, sized}
use Rattle.editor.specs.Rules.Conversion.{old_quarter, converted_side}
use Rattle.window.specs.Rules.Core.{Answer, rows_and_columns, session_in, refusal}

-- The old stores by the old table, H and W by theirs, and the new side store by the new table; no screen is lent. (02, M-109: SIZE. DECISIONS C36.)
unfoldable pub convertible : ℕ → ℕ → Stores → List ℕ → Bool
convertible H W b side = sized old_quarter b && (rows_and_columns H W && eqb (length side) (4 * quarter))

-- A session by the old rule: quarters of the old length, and everything else as it is now. (02, M-109: SESSION by the old rule. DECISIONS C36.)
unfoldable pub was_session : Session → Stores → Bool
was_session s b = session_in old_quarter s b

-- All that the conversion determines: the answer, the record handed back, and the bytes of the new side store. The old stores are only read.
pub record Converted : Type 0 where
  pub answer : Answer
  pub session : Session
  pub side : List ℕ

-- The answer says its number alone: no key was pressed, and no screen is lent. The record is the one that was given.
abbrev pub answering : Session → ℕ → List ℕ → Converted
answering s code side = record { answer = refusal code 0; session = s; side = side }

abbrev pub conversion_checks : Session → Stores → List ℕ → List Check
conversion_checks s b side = check SIZE (convertible s.frame.h s.frame.w b side) ∷ check SESSION (was_session s b) ∷ []

-- SIZE, then SESSION: no byte changes. Else the new side store holds the same plain state, whatever it held before. (02, M-109: conversion.)
unfoldable pub converted : Session → Stores → List ℕ → Converted
converted s b side =
    unless (conversion_checks s b side) (λ code. answering s code side) (answering s 0 (converted_side old_quarter quarter s.lengths b))

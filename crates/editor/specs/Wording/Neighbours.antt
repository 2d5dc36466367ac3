-- What stands beside the cursor, for every text: theorems say the places with it. (01, plain editor: places.)
use Rattle.std.specs.Prelude.{◌⊎◌, ◌≢◌, List, [], ◌∷◌, ◌++◌, Bool, ◌||◌, ℕ, eqb}
use Rattle.editor.specs.Words.{Neighbour}
use Rattle.editor.specs.declared.Neighbour.TheVariants.{Nothing, Space, Newline, Other}
use Rattle.gap.specs.Rules.Doc.{Doc}
use Rattle.gap.specs.Rules.Lines.{newline}
use Rattle.editor.specs.Rules.Places.{is_newline}

-- What separates words.
abbrev pub blank : ℕ → Bool
blank b = eqb b 32 || is_newline b

-- The text before the cursor is empty, or ends in a byte of this kind, whatever stands before that.
pub data EndsIn : List ℕ → Neighbour → Type 0 where
  no_end : EndsIn [] Nothing
  end-space : (t : List ℕ) → EndsIn (t ++ (32 ∷ [])) Space
  end-newline : (t : List ℕ) → EndsIn (t ++ (newline ∷ [])) Newline
  end-other : (t : List ℕ) (b : ℕ) → b ≢ 32 → b ≢ newline → EndsIn (t ++ (b ∷ [])) Other

-- The text behind the cursor is empty, or begins with a byte of this kind, whatever follows.
pub data BeginsWith : List ℕ → Neighbour → Type 0 where
  no_start : BeginsWith [] Nothing
  start-space : (t : List ℕ) → BeginsWith (32 ∷ t) Space
  start-newline : (t : List ℕ) → BeginsWith (newline ∷ t) Newline
  start-other : (b : ℕ) (t : List ℕ) → b ≢ 32 → b ≢ newline → BeginsWith (b ∷ t) Other

-- 01's sentences in these words. Line beginning: l is empty or ends in a newline. Line ending: r is empty or begins with one.
abbrev pub AtBeginning : Doc → Type 0
AtBeginning d = EndsIn d.l Nothing ⊎ EndsIn d.l Newline

abbrev pub AtEnding : Doc → Type 0
AtEnding d = BeginsWith d.r Nothing ⊎ BeginsWith d.r Newline

-- Word: l is empty or ends in a space or a newline, and r is empty or begins with neither; or a line beginning.
abbrev pub BeforeWord : Doc → Type 0
BeforeWord d =
    (EndsIn d.l Nothing ⊎ (EndsIn d.l Space ⊎ EndsIn d.l Newline)) × (BeginsWith d.r Nothing ⊎ BeginsWith d.r Other)

abbrev pub AtWord : Doc → Type 0
AtWord d = BeforeWord d ⊎ AtBeginning d

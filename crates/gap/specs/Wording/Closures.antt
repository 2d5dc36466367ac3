-- How the promises of functions speak that take a test of bytes as a closure.
use Rattle.std.specs.Prelude.{◌≡◌, ℕ, Bool}

-- Whatever a call answers is what the test says of the byte.
abbrev pub Says : (ℕ → Bool → Type 0) → (ℕ → Bool) → Type 0
Says answers passes = (b : ℕ) (answer : Bool) → answers b answer → answer ≡ passes b

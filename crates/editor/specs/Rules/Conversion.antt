-- Request M-109: a quarter had 256 bytes before, and an old session's side store is converted to longer quarters.
use Rattle.std.specs.Prelude.{List, ℕ, length}
use Rattle.editor.specs.Words.{Lengths}
use Rattle.editor.specs.Rules.Bytes.{Stores, plain_of, stores_of}

-- The length that a quarter had. (02, M-109: the old rule.)
unfoldable pub old_quarter : ℕ
old_quarter = 256

-- The side store, in quarters of Q bytes, of the plain state that record and stores hold in quarters of O bytes. (02, M-109: same plain state.)
abbrev pub converted_side : (O Q : ℕ) → Lengths → Stores → List ℕ
converted_side O Q n b = (stores_of (length b.text) Q (plain_of O n b)).side

-- The stores after it: only the side store is another one.
abbrev pub converted_stores : (O Q : ℕ) → Lengths → Stores → Stores
converted_stores O Q n b = record { text = b.text; recall = b.recall; held = b.held; side = converted_side O Q n b }

-- How the promises about the lent stores speak.
use Rattle.std.specs.Prelude.{◌≡◌, length}
use Rattle.editor.specs.declared.stores.Stores.{Stores}
use Rattle.editor.specs.Rules.Bytes.{Stores as StoredBytes}
use Rattle.editor.specs.Wording.Promise.{stores}

-- The stores as the definitions have them.
abbrev pub stores_as : Stores → StoredBytes
stores_as s = stores s.text.now s.recall.now s.held.now s.side.now

-- They are the ones that were lent, as long as before: nothing else is put in the place of one.
pub record SameStores (s t : Stores) : Type 0 where
  pub text : t.text.ghost_name ≡ s.text.ghost_name
  pub recall : t.recall.ghost_name ≡ s.recall.ghost_name
  pub held : t.held.ghost_name ≡ s.held.ghost_name
  pub side : t.side.ghost_name ≡ s.side.ghost_name
  pub text_len : length t.text.now ≡ length s.text.now
  pub recall_len : length t.recall.now ≡ length s.recall.now
  pub held_len : length t.held.now ≡ length s.held.now
  pub side_len : length t.side.now ≡ length s.side.now

-- `host_keys::key_from` meets its contract: it is the key that the numbers name, or an insert that is refused.
use Rattle.window.proofs.Laws.HostNumbers.{named-or-none}
use Rattle.window.proofs.host_keys.key_from.Goals as goal

pub returns : goal.returns
returns c = named-or-none _ _ _ _ c.named_key.ensures c.unwrap_or.ensures

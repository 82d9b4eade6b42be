-- By the places that are found.
use Rattle.directory.specs.Found.{key_there}
use Rattle.by_name.proofs.names.traded.Goals as goal

pub returns : goal.returns
returns c = rw (key_there _ _ c.account.ensures, key_there _ _ c.security.ensures)

use Rattle.std.proofs.Common.{◌-◌, length, sym, arith}
use Rattle.peer_script.proofs.Lines.{open_last}
use Rattle.peer_script.proofs.script.is_open.Goals as goal

pub returns-in-len1-up : goal.returns-in-len1-up
returns-in-len1-up c = sym (open_last c.args.text.now (length c.args.text.now - 1) (omega arith))

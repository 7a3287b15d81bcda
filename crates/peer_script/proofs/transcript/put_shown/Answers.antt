use Rattle.std.proofs.Common.{rules, arith}
use Rattle.peer_script.proofs.Shown.{escaped}
use Rattle.peer_script.proofs.transcript.put_shown.Goals as goal

pub loop-at-preserved : goal.loop-at-preserved
loop-at-preserved c = (
  omega arith,
  escaped c.args.bytes.now c.args.text.now.items c.loop-at.text.items c.put.new.text.items c.put-in-loop-at.new.text.items c.put_hex_byte.new.text.items c.loop-at.from c.loop-at.at
      (omega arith) c.loop-at.invariant.0 (search rules) c.loop-at.invariant.1 c.in_ok-put.ensures c.in_ok-put-2.ensures c.in_ok-put_hex_byte.ensures,
)

-- The cursor of a stream that waited is set to the end.
use Rattle.std.proofs.Common.{◌≡◌, ◌+◌, ◌==◌, if◌then◌else◌, sym, ◌∙◌, ap, subst, arith, length, Some, None, option_map, is_some}
use Rattle.std.specs.{BTreeMap.{WritesThrough}, Ordering.nat_cmp}
use Rattle.peer_lists.specs.Holdings.{held_by, begun}
use Rattle.peer_lists.proofs.{Steps.{shared_begun, fewer_begun}, Views.{held_is, held_kept, held_begun, has_begun_so, waits_so}}
use Rattle.peer_lists.proofs.shared_list.SharedList.begin.Goals as goal

pub returns-in_default : goal.returns-in_default
returns-in_default c =
    let none = sym c.get.ensures.value ∙ sym c.copied.ensures ∙ c.in_default.is in
    let held = held_is c.self.inside.passed c.self.inside.entries.items c.self.inside.cursors c.args.self.now c.self.view_is c.args.stream None none in
    held_kept c.args.self.now c.args.stream (option_map begun) (held ∙ sym (ap (option_map begun) held))

pub returns-then-is_some : goal.returns-then-is_some
returns-then-is_some c =
    let some = sym c.get.ensures.value ∙ sym c.copied.ensures ∙ c.in-Some.is in
    let held = held_is c.self.inside.passed c.self.inside.entries.items c.self.inside.cursors c.args.self.now c.self.view_is c.args.stream (Some c.in-Some.cursor) some in
    held_kept c.args.self.now c.args.stream (option_map begun) (has_begun_so c.self.inside.passed c.self.inside.entries.items c.in-Some.cursor (held_by c.args.self.now c.args.stream) held (sym c.if-is_some.ensures))

pub prove-unreachable-requires : goal.prove-unreachable-requires
prove-unreachable-requires c =
    let some = sym c.get.ensures.value ∙ sym c.copied.ensures ∙ c.in-Some.is ∙ waits_so c.in-Some.cursor (sym c.if-is_some.ensures) in
    omega (arith, c.if-prove.true, c.len-streams.ensures.len, fewer_begun c.self.invariant c.args.stream some)

pub invariant_of-self : goal.invariant_of-self
invariant_of-self c =
    let some = sym c.get.ensures.value ∙ sym c.copied.ensures ∙ c.in-Some.is ∙ waits_so c.in-Some.cursor (sym c.if-is_some.ensures) in
    let end : c.self.inside.passed + c.len.result ≡ c.self.inside.passed + length c.self.inside.entries.items = ap (λ n. c.self.inside.passed + n) (c.len.ensures ∙ c.self.inside.entries.ok.0) in
    shared_begun c.self.invariant c.set_cursor.new.cursors c.args.stream some (subst (λ n. WritesThrough nat_cmp (nat_cmp c.args.stream) c.self.inside.cursors (Some n) c.set_cursor.new.cursors) end c.set_cursor.ensures)

pub returns : goal.returns
returns c k =
    let some = sym c.get.ensures.value ∙ sym c.copied.ensures ∙ c.in-Some.is ∙ waits_so c.in-Some.cursor (sym c.if-is_some.ensures) in
    let end : c.self.inside.passed + c.len.result ≡ c.self.inside.passed + length c.self.inside.entries.items = ap (λ n. c.self.inside.passed + n) (c.len.ensures ∙ c.self.inside.entries.ok.0) in
    let u = subst (λ n. WritesThrough nat_cmp (nat_cmp c.args.stream) c.self.inside.cursors (Some n) c.set_cursor.new.cursors) end c.set_cursor.ensures in
    held_begun c.self.inside.passed c.self.inside.entries.items c.self.inside.cursors c.set_cursor.new.cursors c.args.stream some (u.3 (ap is_some some)) k
    ∙ ap (λ v. if c.args.stream == k then option_map begun (held_by v k) else held_by v k) c.self.view_is

-- The message at the stream's cursor is its first.
use Rattle.std.proofs.{Common.{◌-◌, sym, ◌∙◌, ap, refl, length, Some, None, option_map}, lemmas.Option.{slice_get_read, slice_get_past}}
use Rattle.std.specs.Option.{option_copied}
use Rattle.peer_lists.specs.{Entries.Kept, Holdings.first_by}
use Rattle.peer_lists.proofs.{Views.{held_is, first_none, first_waits, first_at}}
use Rattle.peer_lists.proofs.shared_list.SharedList.first.Goals as goal

pub returns-in_err-get : goal.returns-in_err-get
returns-in_err-get c =
    ap (option_map (λ m. m.now)) c.from_residual.ensures
    ∙ first_none c.args.self.now c.args.stream (held_is c.self.inside.passed c.self.inside.entries.items c.self.inside.cursors c.args.self.now c.self.view_is c.args.stream None (sym c.get.ensures.value ∙ ap option_copied c.in_err-get.was))

pub returns-in_err-cursor : goal.returns-in_err-cursor
returns-in_err-cursor c =
    ap (option_map (λ m. m.now)) c.from_residual-in_err-cursor.ensures
    ∙ first_waits c.args.self.now c.args.stream (held_is c.self.inside.passed c.self.inside.entries.items c.self.inside.cursors c.args.self.now c.self.view_is c.args.stream (Some None) (sym c.get.ensures.value ∙ ap option_copied c.in_ok-get.was ∙ ap (λ o. Some o) c.in_err-cursor.was))

pub returns-in_err-entry : goal.returns-in_err-entry
returns-in_err-entry c =
    let at = sym c.get.ensures.value ∙ ap option_copied c.in_ok-get.was ∙ ap (λ o. Some o) c.in_ok-cursor.was in
    let i = c.in_ok-cursor.cursor - c.self.inside.passed in
    ap (option_map (λ m. m.now)) c.from_residual-in_err-entry.ensures
    ∙ sym (ap (λ v. first_by v c.args.stream) (sym c.self.view_is) ∙ first_at c.self.inside.passed c.self.inside.entries.items c.self.inside.cursors c.args.stream c.in_ok-cursor.cursor at
    ∙ ap (option_map (λ (e : Kept). e.message)) (slice_get_past c.self.inside.entries.items i c.in_err-entry.ensures.item.3))

pub returns : goal.returns
returns c =
    let at = sym c.get.ensures.value ∙ ap option_copied c.in_ok-get.was ∙ ap (λ o. Some o) c.in_ok-cursor.was in
    let i = c.in_ok-cursor.cursor - c.self.inside.passed in
    let e = c.in_ok-entry.entry.now in
    ap (λ m. Some m) c.message.ensures
    ∙ sym (ap (λ v. first_by v c.args.stream) (sym c.self.view_is) ∙ first_at c.self.inside.passed c.self.inside.entries.items c.self.inside.cursors c.args.stream c.in_ok-cursor.cursor at
    ∙ ap (option_map (λ (x : Kept). x.message)) (slice_get_read c.self.inside.entries.items (length c.self.inside.entries.items) i e refl c.in_ok-entry.ensures.item.3.0 c.in_ok-entry.ensures.lookup))

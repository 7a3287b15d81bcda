-- What is answered, by what the path and the interface's name reach.
use Rattle.std.proofs.Common.{◌≡◌, sym, ◌∙◌, ap}
use Rattle.peer_objects.specs.Reaching.{target_of}
use Rattle.peer_objects.proofs.Answering.{Names, nothing_serves, standard_serves, standard_disturbs, standard_stops, slot_serves, slot_disturbs}
use Rattle.peer_objects.proofs.server.ObjectServer.answer.Goals as goal

pub returns-in-Nothing-clause-served : goal.returns-in-Nothing-clause-served
returns-in-Nothing-clause-served g c =
    let names : Names c.args.message.now c.args.path.now c.args.interface.now c.args.member.now = record { path_is = c.requires.path; interface_is = c.requires.interface; member_is = c.requires.member } in
    nothing_serves g.B.Interface.meaning g.B.Interface.state c.refused.result c.args.machine_id (c.args.self.now.0, c.args.self.now.1) c.args.message.now c.args.path.now c.args.interface.now c.args.member.now c.in-Nothing.error names
    (ap target_of (sym c.in-Nothing.is) ∙ c.in_ok-error.ensures.found) c.refused.ensures.messages c.refused.ensures.notifier

pub returns-in-Standard-clause-served : goal.returns-in-Standard-clause-served
returns-in-Standard-clause-served g c =
    let names : Names c.args.message.now c.args.path.now c.args.interface.now c.args.member.now = record { path_is = c.requires.path; interface_is = c.requires.interface; member_is = c.requires.member } in
    standard_serves g.B.Interface.meaning g.B.Interface.state c.new.result c.args.machine_id (c.args.self.now.0, c.args.self.now.1) (c.answer_standard.new.self.0, c.answer_standard.new.self.1) c.args.message.now c.args.path.now c.args.interface.now c.args.member.now
    c.in-Standard.standard c.in_ok-answer-in-Standard.answer names (ap target_of (sym c.in-Standard.is) ∙ c.in_ok-error.ensures.found) c.in_ok-answer-in-Standard.ensures.tree c.in_ok-answer-in-Standard.ensures.answers c.new.ensures.messages c.new.ensures.notifier

pub returns-in-Standard-clause-disturbed : goal.returns-in-Standard-clause-disturbed
returns-in-Standard-clause-disturbed g c =
    let names : Names c.args.message.now c.args.path.now c.args.interface.now c.args.member.now = record { path_is = c.requires.path; interface_is = c.requires.interface; member_is = c.requires.member } in
    standard_disturbs g.B.Interface.meaning g.B.Interface.state c.new.result c.args.machine_id (c.args.self.now.0, c.args.self.now.1) (c.answer_standard.new.self.0, c.answer_standard.new.self.1) c.args.message.now c.args.path.now c.args.interface.now c.args.member.now
    c.in-Standard.standard c.in_ok-answer-in-Standard.answer names (ap target_of (sym c.in-Standard.is) ∙ c.in_ok-error.ensures.found) c.in_ok-answer-in-Standard.ensures.tree c.in_ok-answer-in-Standard.ensures.answers

pub returns-in_err-answer-in-Standard-clause-disturbed : goal.returns-in_err-answer-in-Standard-clause-disturbed
returns-in_err-answer-in-Standard-clause-disturbed g c =
    let names : Names c.args.message.now c.args.path.now c.args.interface.now c.args.member.now = record { path_is = c.requires.path; interface_is = c.requires.interface; member_is = c.requires.member } in
    standard_stops g.B.Interface.meaning g.B.Interface.state c.from_residual-in_err-answer-in-Standard.result (c.args.self.now.0, c.args.self.now.1) (c.answer_standard.new.self.0, c.answer_standard.new.self.1) c.args.message.now c.args.path.now c.args.interface.now c.args.member.now
    c.in-Standard.standard names (ap target_of (sym c.in-Standard.is) ∙ c.in_ok-error.ensures.found) c.answer_standard.ensures.tree c.in_err-answer-in-Standard.ensures.disturbed

pub returns-in_err-answer-in-Slot-clause-disturbed : goal.returns-in_err-answer-in-Slot-clause-disturbed
returns-in_err-answer-in-Slot-clause-disturbed g c =
    let names : Names c.args.message.now c.args.path.now c.args.interface.now c.args.member.now = record { path_is = c.requires.path; interface_is = c.requires.interface; member_is = c.requires.member } in
    slot_disturbs g.B.Interface.meaning g.B.Interface.state c.from_residual-in_err-answer-in-Slot.result (c.args.self.now.0, c.args.self.now.1) (c.call.new.self.0, c.call.new.self.1) c.args.message.now c.args.path.now c.args.interface.now c.args.member.now
    c.in-Slot.slot names (ap target_of (sym c.in-Slot.is) ∙ c.in_ok-error.ensures.found) c.call.ensures.tree c.in_err-answer-in-Slot.ensures.reached

pub returns-clause-served : goal.returns-clause-served
returns-clause-served g c =
    let names : Names c.args.message.now c.args.path.now c.args.interface.now c.args.member.now = record { path_is = c.requires.path; interface_is = c.requires.interface; member_is = c.requires.member } in
    slot_serves g.B.Interface.meaning g.B.Interface.state c.new-in-Slot.result c.args.machine_id (c.args.self.now.0, c.args.self.now.1) (c.call.new.self.0, c.call.new.self.1) c.args.message.now c.args.path.now c.args.interface.now c.args.member.now
    c.in-Slot.slot c.in_ok-answer-in-Slot.answer names (ap target_of (sym c.in-Slot.is) ∙ c.in_ok-error.ensures.found) c.call.ensures.tree c.in_ok-answer-in-Slot.ensures.called c.new-in-Slot.ensures.messages c.new-in-Slot.ensures.notifier

pub returns-clause-disturbed : goal.returns-clause-disturbed
returns-clause-disturbed g c =
    let names : Names c.args.message.now c.args.path.now c.args.interface.now c.args.member.now = record { path_is = c.requires.path; interface_is = c.requires.interface; member_is = c.requires.member } in
    slot_disturbs g.B.Interface.meaning g.B.Interface.state c.new-in-Slot.result (c.args.self.now.0, c.args.self.now.1) (c.call.new.self.0, c.call.new.self.1) c.args.message.now c.args.path.now c.args.interface.now c.args.member.now
    c.in-Slot.slot names (ap target_of (sym c.in-Slot.is) ∙ c.in_ok-error.ensures.found) c.call.ensures.tree c.in_ok-answer-in-Slot.ensures.called.reached

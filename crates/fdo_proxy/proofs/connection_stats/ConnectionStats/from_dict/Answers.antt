use Rattle.std.proofs.Common.{rules, ◌∙◌, ap, subst, [], ◌∷◌, codes}
use Rattle.wire_signature.specs.SingleType.{basic}
use Rattle.wire_signature.specs.declared.basic.BasicType.TheVariants as basics
use Rattle.fdo_proxy.specs.Dictionary.{AreOf, count_under, text_under}
use Rattle.fdo_proxy.proofs.connection_stats.ConnectionStats.from_dict.Goals as goal

pub returns : goal.returns
returns c =
    let e = c.as_slice-entries.ensures in (
      record {
        serial = c.count.ensures ∙ ap (count_under _) e;
        unique_name = c.in_ok-unique_name.ensures.0 ∙ ap (text_under _) e;
        match_rules = c.count-2.ensures ∙ ap (count_under _) e;
        peak_match_rules = c.count-3.ensures ∙ ap (count_under _) e;
        bus_names = c.count-4.ensures ∙ ap (count_under _) e;
        peak_bus_names = c.count-5.ensures ∙ ap (count_under _) e;
        incoming_messages = c.count-6.ensures ∙ ap (count_under _) e;
        outgoing_messages = c.count-7.ensures ∙ ap (count_under _) e;
        incoming_bytes = c.count-8.ensures ∙ ap (count_under _) e;
        outgoing_bytes = c.count-9.ensures ∙ ap (count_under _) e;
        incoming_fds = c.count-10.ensures ∙ ap (count_under _) e;
        outgoing_fds = c.count-11.ensures ∙ ap (count_under _) e;
        peak_incoming_messages = c.count-12.ensures ∙ ap (count_under _) e;
        peak_outgoing_messages = c.count-13.ensures ∙ ap (count_under _) e;
        peak_incoming_bytes = c.count-14.ensures ∙ ap (count_under _) e;
        peak_outgoing_bytes = c.count-15.ensures ∙ ap (count_under _) e;
        peak_incoming_fds = c.count-16.ensures ∙ ap (count_under _) e;
        peak_outgoing_fds = c.count-17.ensures ∙ ap (count_under _) e;
        rest = c.in_ok-others.ensures;
      },
      (search rules, subst (AreOf (basic basics.String) (codes "UniqueName" ∷ [])) e c.in_ok-unique_name.ensures.1),
    )

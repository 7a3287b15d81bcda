use Rattle.std.proofs.Common.{rules, ◌∙◌, ap}
use Rattle.fdo_proxy.specs.Dictionary.{count_under}
use Rattle.fdo_proxy.proofs.stats.Stats.from_dict.Goals as goal

pub returns : goal.returns
returns c =
    let e = c.as_slice-entries.ensures in (
      record {
        serial = c.count.ensures ∙ ap (count_under _) e;
        active_connections = c.count-2.ensures ∙ ap (count_under _) e;
        incomplete_connections = c.count-3.ensures ∙ ap (count_under _) e;
        match_rules = c.count-4.ensures ∙ ap (count_under _) e;
        peak_match_rules = c.count-5.ensures ∙ ap (count_under _) e;
        peak_match_rules_per_connection = c.count-6.ensures ∙ ap (count_under _) e;
        bus_names = c.count-7.ensures ∙ ap (count_under _) e;
        peak_bus_names = c.count-8.ensures ∙ ap (count_under _) e;
        peak_bus_names_per_connection = c.count-9.ensures ∙ ap (count_under _) e;
        rest = c.in_ok-others.ensures;
      },
      search rules,
    )

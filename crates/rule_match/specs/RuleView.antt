-- What contracts see of a rule, and its fields again.
use Rattle.rule_match.specs.declared.rule.MatchRule.TheInside.{Inside}
use Rattle.rule_match.specs.Rule.{Rule}

-- the rule that the fields of a `MatchRule` hold
abbrev pub rule_view : Inside → Rule
rule_view m = record {
  kind = m.kind;
  sender = m.sender;
  interface = m.interface;
  member = m.member;
  path = m.path;
  destination = m.destination;
  args = m.args;
  arg_paths = m.arg_paths;
  arg0ns = m.arg0ns;
}

-- the fields of the `MatchRule` that a rule is
abbrev pub rule_fields : Rule → Inside
rule_fields r = record {
  kind = r.kind;
  sender = r.sender;
  interface = r.interface;
  member = r.member;
  path = r.path;
  destination = r.destination;
  args = r.args;
  arg_paths = r.arg_paths;
  arg0ns = r.arg0ns;
}

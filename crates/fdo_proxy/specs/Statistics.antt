-- The statistics of a message bus and of its connections (D-Bus Specification, "Message Bus Messages",
-- "org.freedesktop.DBus.Debug.Stats"), read from a dictionary.
use Rattle.std.specs.Prelude.{◌≡◌, ℕ, List, [], ◌∷◌, codes}
use Rattle.wire_signature.specs.SingleType.{basic}
use Rattle.wire_signature.specs.declared.basic.BasicType.TheVariants as basics
use Rattle.fdo_proxy.specs.Dictionary.{AreOf, Entries, count_under, text_under, others}
use Rattle.fdo_proxy.specs.declared.stats.Stats.{Stats}
use Rattle.fdo_proxy.specs.declared.connection_stats.ConnectionStats.{ConnectionStats}

-- the keys of the bus's statistics, all of numbers
abbrev pub stats_keys : List (List ℕ)
stats_keys =
    codes "Serial" ∷
    codes "ActiveConnections" ∷
    codes "IncompleteConnections" ∷
    codes "MatchRules" ∷
    codes "PeakMatchRules" ∷
    codes "PeakMatchRulesPerConnection" ∷
    codes "BusNames" ∷
    codes "PeakBusNames" ∷
    codes "PeakBusNamesPerConnection" ∷
    []

-- the statistics are those of a dictionary
pub record IsStats (dict : Entries) (stats : Stats) : Type 0 where
  pub serial : stats.serial ≡ count_under (codes "Serial") dict
  pub active_connections : stats.active_connections ≡ count_under (codes "ActiveConnections") dict
  pub incomplete_connections : stats.incomplete_connections ≡ count_under (codes "IncompleteConnections") dict
  pub match_rules : stats.match_rules ≡ count_under (codes "MatchRules") dict
  pub peak_match_rules : stats.peak_match_rules ≡ count_under (codes "PeakMatchRules") dict
  pub peak_match_rules_per_connection :
      stats.peak_match_rules_per_connection ≡ count_under (codes "PeakMatchRulesPerConnection") dict
  pub bus_names : stats.bus_names ≡ count_under (codes "BusNames") dict
  pub peak_bus_names : stats.peak_bus_names ≡ count_under (codes "PeakBusNames") dict
  pub peak_bus_names_per_connection :
      stats.peak_bus_names_per_connection ≡ count_under (codes "PeakBusNamesPerConnection") dict
  pub rest : stats.rest.items ≡ others stats_keys dict

-- each entry of a key of the statistics is of that key's type
abbrev pub AreStats : Entries → Type 0
AreStats dict =
    AreOf (basic basics.Uint32) stats_keys dict

-- the keys of a connection's statistics that are of numbers; there is one of a text too, UniqueName
abbrev pub connection_counts : List (List ℕ)
connection_counts =
    codes "Serial" ∷
    codes "MatchRules" ∷
    codes "PeakMatchRules" ∷
    codes "BusNames" ∷
    codes "PeakBusNames" ∷
    codes "IncomingMessages" ∷
    codes "OutgoingMessages" ∷
    codes "IncomingBytes" ∷
    codes "OutgoingBytes" ∷
    codes "IncomingFds" ∷
    codes "OutgoingFds" ∷
    codes "PeakIncomingMessages" ∷
    codes "PeakOutgoingMessages" ∷
    codes "PeakIncomingBytes" ∷
    codes "PeakOutgoingBytes" ∷
    codes "PeakIncomingFds" ∷
    codes "PeakOutgoingFds" ∷
    []

-- the statistics are those of a dictionary
pub record IsConnectionStats (dict : Entries) (stats : ConnectionStats) : Type 0 where
  pub serial : stats.serial ≡ count_under (codes "Serial") dict
  pub unique_name : stats.unique_name ≡ text_under (codes "UniqueName") dict
  pub match_rules : stats.match_rules ≡ count_under (codes "MatchRules") dict
  pub peak_match_rules : stats.peak_match_rules ≡ count_under (codes "PeakMatchRules") dict
  pub bus_names : stats.bus_names ≡ count_under (codes "BusNames") dict
  pub peak_bus_names : stats.peak_bus_names ≡ count_under (codes "PeakBusNames") dict
  pub incoming_messages : stats.incoming_messages ≡ count_under (codes "IncomingMessages") dict
  pub outgoing_messages : stats.outgoing_messages ≡ count_under (codes "OutgoingMessages") dict
  pub incoming_bytes : stats.incoming_bytes ≡ count_under (codes "IncomingBytes") dict
  pub outgoing_bytes : stats.outgoing_bytes ≡ count_under (codes "OutgoingBytes") dict
  pub incoming_fds : stats.incoming_fds ≡ count_under (codes "IncomingFds") dict
  pub outgoing_fds : stats.outgoing_fds ≡ count_under (codes "OutgoingFds") dict
  pub peak_incoming_messages : stats.peak_incoming_messages ≡ count_under (codes "PeakIncomingMessages") dict
  pub peak_outgoing_messages : stats.peak_outgoing_messages ≡ count_under (codes "PeakOutgoingMessages") dict
  pub peak_incoming_bytes : stats.peak_incoming_bytes ≡ count_under (codes "PeakIncomingBytes") dict
  pub peak_outgoing_bytes : stats.peak_outgoing_bytes ≡ count_under (codes "PeakOutgoingBytes") dict
  pub peak_incoming_fds : stats.peak_incoming_fds ≡ count_under (codes "PeakIncomingFds") dict
  pub peak_outgoing_fds : stats.peak_outgoing_fds ≡ count_under (codes "PeakOutgoingFds") dict
  pub rest : stats.rest.items ≡ others (codes "UniqueName" ∷ connection_counts) dict

-- each entry of a key of the statistics is of that key's type
abbrev pub AreConnectionStats : Entries → Type 0
AreConnectionStats dict =
    AreOf (basic basics.Uint32) connection_counts dict × AreOf (basic basics.String) (codes "UniqueName" ∷ []) dict

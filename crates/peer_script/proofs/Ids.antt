-- The ids of machines are ASCII.
use Rattle.std.proofs.Common.{ℕ, ◌≡◌, Bool, true, false, ◌&&◌, not, if◌then◌else◌, List, length, slice_index, IsAscii, IsUtf8, Some, None, inl, inr, refl, arith}
use Rattle.std.specs.List.{list_any}
use Rattle.std.specs.Char.{is_ascii_uppercase}
use Rattle.std.proofs.lemmas.Bool.{cases_lt}
use Rattle.std.proofs.lemmas.List.{get_or_past}
use Rattle.std.proofs.lemmas.Str.{IsUtf8-from_ascii}
use Rattle.wire_names.specs.Guid.{is_guid, IsGuid}
use Rattle.wire_names.proofs.Guids.{guid_bytes}
use Rattle.peer_script.specs.Script.{machine_of}

guid_ascii : (id : List ℕ) → IsGuid id → IsAscii id
guid_ascii id h i = elim (cases_lt i (length id)) [
  | inl lt ↦ (guid_bytes id h i 0 lt).1
  | inr ge ↦ let past : slice_index id i ≡ 0 = get_or_past id i 0 ge in omega arith
]

no_guid : (id : List ℕ) (v w : Bool) → is_guid id ≡ v → (IsUtf8 id → ⊥) → (if v && w then Some id else None) ≡ None
no_guid id true w e h = absurd (h (IsUtf8-from_ascii id (guid_ascii id e)))
no_guid id false w e h = refl

pub no_id : (id : List ℕ) → (IsUtf8 id → ⊥) → machine_of id ≡ None
no_id id h = no_guid id (is_guid id) (not (list_any is_ascii_uppercase id)) refl h

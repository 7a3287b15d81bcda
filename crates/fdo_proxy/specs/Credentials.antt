-- The credentials of a connection (D-Bus Specification, "Message Bus Messages",
-- "org.freedesktop.DBus.GetConnectionCredentials"), read from a dictionary.
use Rattle.std.specs.Prelude.{◌≡◌, ℕ, List, [], ◌∷◌, ◌++◌, codes, Option, option_map, unwrap_or}
use Rattle.wire_signature.specs.SingleType.{array, basic}
use Rattle.wire_signature.specs.declared.basic.BasicType.TheVariants as basics
use Rattle.fdo_proxy.specs.Dictionary.{AreOf, Entries, number_under, numbers_under, text_under}
use Rattle.fdo_proxy.specs.declared.credentials.ConnectionCredentials.{ConnectionCredentials}

-- the numbers of the groups, without where they lie in memory
abbrev pub groups_of : ConnectionCredentials → Option (List ℕ)
groups_of credentials = option_map (λ ids. ids.items) credentials.unix_group_ids

-- the number of one more group behind the others, which may be absent
abbrev pub with_group : Option (List ℕ) → ℕ → List ℕ
with_group ids id = unwrap_or ids [] ++ id ∷ []

-- the credentials are those of a dictionary
pub record IsCredentials (dict : Entries) (credentials : ConnectionCredentials) : Type 0 where
  pub unix_user_id : credentials.unix_user_id ≡ number_under (codes "UnixUserID") dict
  pub unix_group_ids : groups_of credentials ≡ numbers_under (codes "UnixGroupIDs") dict
  pub process_fd : credentials.process_fd ≡ number_under (codes "ProcessFD") dict
  pub process_id : credentials.process_id ≡ number_under (codes "ProcessID") dict
  pub windows_sid : credentials.windows_sid ≡ text_under (codes "WindowsSID") dict
  pub linux_security_label : credentials.linux_security_label ≡ numbers_under (codes "LinuxSecurityLabel") dict

-- each entry of a credential's key is of that credential's type
pub record AreCredentials (dict : Entries) : Type 0 where
  pub unix_user_id : AreOf (basic basics.Uint32) (codes "UnixUserID" ∷ []) dict
  pub unix_group_ids : AreOf (array (basic basics.Uint32)) (codes "UnixGroupIDs" ∷ []) dict
  pub process_fd : AreOf (basic basics.UnixFd) (codes "ProcessFD" ∷ []) dict
  pub process_id : AreOf (basic basics.Uint32) (codes "ProcessID" ∷ []) dict
  pub windows_sid : AreOf (basic basics.String) (codes "WindowsSID" ∷ []) dict
  pub linux_security_label : AreOf (array (basic basics.Byte)) (codes "LinuxSecurityLabel" ∷ []) dict

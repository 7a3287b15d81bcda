-- The replies of a bus about names (D-Bus Specification, "Message Bus Messages").
use Rattle.std.specs.Prelude.{◌≡◌, ℕ, List, codes, Result, Ok, Err}
use Rattle.fdo_proxy.specs.declared.names.RequestNameReply.{RequestNameReply}
use Rattle.fdo_proxy.specs.declared.names.RequestNameReply.TheVariants as requests
use Rattle.fdo_proxy.specs.declared.names.ReleaseNameReply.{ReleaseNameReply}
use Rattle.fdo_proxy.specs.declared.names.ReleaseNameReply.TheVariants as releases
use Rattle.fdo_proxy.specs.declared.names.StartServiceReply.{StartServiceReply}
use Rattle.fdo_proxy.specs.declared.names.StartServiceReply.TheVariants as starts
use Rattle.wire_message.specs.declared.error.Error.{Error}
use Rattle.wire_message.specs.declared.error.Error.TheVariants as errors

-- ---- the numbers of the replies

-- those of RequestName (D-Bus Specification, "org.freedesktop.DBus.RequestName")
abbrev pub request_code : RequestNameReply → ℕ
request_code requests.PrimaryOwner = 1
request_code requests.InQueue = 2
request_code requests.Exists = 3
request_code requests.AlreadyOwner = 4

-- those of ReleaseName (D-Bus Specification, "org.freedesktop.DBus.ReleaseName")
abbrev pub release_code : ReleaseNameReply → ℕ
release_code releases.Released = 1
release_code releases.NonExistent = 2
release_code releases.NotOwner = 3

-- those of StartServiceByName (D-Bus Specification, "org.freedesktop.DBus.StartServiceByName")
abbrev pub start_code : StartServiceReply → ℕ
start_code starts.Success = 1
start_code starts.AlreadyRunning = 2

-- a number, read as a reply: InvalidReply exactly of a number that no reply has
abbrev pub TellsReply : {A : Type 0} → (A → ℕ) → ℕ → Result A Error → Type 0
TellsReply code number (Ok reply) = code reply ≡ number
TellsReply {A} code number (Err errors.InvalidReply) = (reply : A) → code reply ≡ number → ⊥
TellsReply code number (Err error) = ⊥

-- ---- the names of the replies

-- those of RequestName
abbrev pub request_text : RequestNameReply → List ℕ
request_text requests.PrimaryOwner = codes "PrimaryOwner"
request_text requests.InQueue = codes "InQueue"
request_text requests.Exists = codes "Exists"
request_text requests.AlreadyOwner = codes "AlreadyOwner"

-- those of ReleaseName
abbrev pub release_text : ReleaseNameReply → List ℕ
release_text releases.Released = codes "Released"
release_text releases.NonExistent = codes "NonExistent"
release_text releases.NotOwner = codes "NotOwner"

-- those of StartServiceByName
abbrev pub start_text : StartServiceReply → List ℕ
start_text starts.Success = codes "Success"
start_text starts.AlreadyRunning = codes "AlreadyRunning"

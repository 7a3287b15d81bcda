-- The keys of a rule's text (D-Bus Specification, "Match Rules").
use Rattle.std.specs.Prelude.{ℕ, ◌+◌, ◌-◌, ◌*◌, Bool, ◌&&◌, ◌==◌, nat_eq, nat_lt, not, if◌then◌else◌, List, [], ◌∷◌, take, drop, codes, Option, Some, None}
use Rattle.std.specs.List.{position_or_len}
use Rattle.std.specs.Char.{is_ascii_digit}
use Rattle.std.specs.Cmp.Lexicographic.{pointwise}
use Rattle.rule_match.specs.declared.key.Key.{Key}
use Rattle.rule_match.specs.declared.key.Key.TheVariants as keys

-- two texts are the same
abbrev pub same : List ℕ → List ℕ → Bool
same xs ys = pointwise nat_eq xs ys

-- the keys that speak of a message's type, sender, interface and member
abbrev pub header_key : List ℕ → Option Key
header_key key =
    if same key (codes "type") then Some keys.Type
    else if same key (codes "sender") then Some keys.Sender
    else if same key (codes "interface") then Some keys.Interface
    else if same key (codes "member") then Some keys.Member
    else None

-- the keys that speak of a path, a destination and a namespace of the first argument
abbrev pub place_key : List ℕ → Option Key
place_key key =
    if same key (codes "path") then Some keys.Path
    else if same key (codes "path_namespace") then Some keys.PathNamespace
    else if same key (codes "destination") then Some keys.Destination
    else if same key (codes "arg0namespace") then Some keys.Arg0Namespace
    else None

-- ---- `argN` and `argNpath`

-- a number below 64
abbrev pub below_64 : ℕ → Option ℕ
below_64 n = if nat_lt n 64 then Some n else None

-- the number of one to three digits, where it is below 64
abbrev pub index_of : List ℕ → Option ℕ
index_of (a ∷ []) = below_64 (a - 48)
index_of (a ∷ b ∷ []) = below_64 (10 * (a - 48) + (b - 48))
index_of (a ∷ b ∷ c ∷ []) = below_64 (100 * (a - 48) + 10 * (b - 48) + (c - 48))
index_of others = None

-- how many digits stand in front
abbrev pub digits_len : List ℕ → ℕ
digits_len text = position_or_len (λ b. not (is_ascii_digit b)) text

-- the key ends behind its number, or behind `path`
abbrev pub ended_key : ℕ → List ℕ → Option Key
ended_key index [] = Some (keys.Argument index)
ended_key index (b ∷ bs) = if same (b ∷ bs) (codes "path") then Some (keys.ArgumentPath index) else None

-- the key of an argument by its number, if there is one, and by what stands behind the number
abbrev pub indexed_key : Option ℕ → List ℕ → Option Key
indexed_key None end = None
indexed_key (Some index) end = ended_key index end

-- digits, and what follows them
abbrev pub numbered_key : List ℕ → Option Key
numbered_key text = indexed_key (index_of (take (digits_len text) text)) (drop (digits_len text) text)

-- `arg`, a number below 64, and nothing or `path` behind it
abbrev pub argument_key : List ℕ → Option Key
argument_key (a ∷ b ∷ c ∷ rest) = if (a == 97) && ((b == 114) && (c == 103)) then numbered_key rest else None
argument_key others = None

-- the first key, or the second where the first is absent
abbrev pub or_key : Option Key → Option Key → Option Key
or_key (Some key) other = Some key
or_key None other = other

-- the key that a text is
unfoldable pub key_of : List ℕ → Option Key
key_of key = or_key (header_key key) (or_key (place_key key) (argument_key key))

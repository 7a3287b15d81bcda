-- The pair of a list at a path's place, where the path is there.
use Rattle.std.proofs.Common.{◌≡◌, refl, sym, ◌∙◌, ap, ap₂, subst, ℕ, ◌<◌, List, Bool, true, false, IsTrue, Option, Some, None, is_some, unwrap_or, option_and_then, nat_le, ◌||◌, ◌&&◌, ◌∷◌, arith, length, string_bytes, slice_set, slice_index_or, []}
use Rattle.std.specs.List.{AllByRecursion, slice_get, insert, remove}
use Rattle.std.specs.Map.{lookup, set_value, remove_entry}
use Rattle.std.specs.BTreeMap.{is_at, insert_entry}
use Rattle.std.specs.declared.string.String.{String}
use Rattle.std.proofs.lemmas.Map.Steps.{set_value_same}
use Rattle.std.proofs.lemmas.Bool.{cond-true, cond-false, both_ways}
use Rattle.wire_names.specs.Names.{is_object_path, is_interface_name}
use Rattle.object_tree.specs.Keyed.{listed}
use Rattle.object_tree.specs.Closed.{AreNodes, closed, is_without, place}
use Rattle.object_tree.specs.Objects.{Objects, Rows, text_cmp, rows_at, slot_at, rows_without, with_rows, added, ancestors, is_below, has_below}
use Rattle.object_tree.proofs.Added.{has_ancestors, insert_sorted}
use Rattle.object_tree.proofs.Closed.{has}
use Rattle.object_tree.proofs.Found.{has_below_closed}
use Rattle.object_tree.proofs.Grown.{ways_valid}
use Rattle.object_tree.proofs.Taken.{without_is, replaced_is}
use Rattle.object_tree.proofs.Changed.{set_nodes, closed_set, rows_same, closed_added, with_nodes, remove_nodes, closed_out, covered, closed_replaced, parent_is}
use Rattle.object_tree.proofs.Got.{got_there, slot_closed}
use Rattle.object_tree.proofs.Listed.{listed_is, listed_insert, listed_length, listed_remove, listed_set}
use Rattle.object_tree.proofs.Placed.{there_at, insert_place, remove_place, set_place}
use Rattle.object_tree.proofs.Valid.{AreNames, with_valid, names_at, rows_left, row_valid}

some_pair : (a b : List ℕ × Rows) → Some a ≡ Some b → a ≡ b
some_pair a b h = ap (λ (o : Option (List ℕ × Rows)). unwrap_or o a) h

module _ {Y : Type 0} (es : List (String Y × Rows)) (path : List ℕ) (i : ℕ) (are : AreNodes (listed es)) (put : i ≡ place (listed es) path) (there : is_some (rows_at (listed es) path) ≡ true) where
  pub in_list : i < length es
  in_list = omega (arith, (there_at (listed es) path are.sorted there).0, listed_length es, put)

  module _ (e : String Y × Rows) (is : e ≡ slice_index_or es i e) where
    stands : slice_get (listed es) (place (listed es) path) ≡ Some (string_bytes e.0, e.1)
    stands = ap (slice_get (listed es)) (sym put) ∙ listed_is es i e in_list is

    pub row_is : rows_at (listed es) path ≡ Some e.1
    row_is = (got_there (listed es) path are (string_bytes e.0, e.1) there stands).0

    pub key_is : string_bytes e.0 ≡ path
    key_is = ap (λ (p : List ℕ × Rows). p.0) (some_pair (string_bytes e.0, e.1) (path, unwrap_or (rows_at (listed es) path) []) (sym stands ∙ (there_at (listed es) path are.sorted there).1))

    rows_are : unwrap_or (rows_at (listed es) path) [] ≡ e.1
    rows_are = ap (λ (r : Option Rows). unwrap_or r []) row_is

    -- its rows in the whole tree
    pub rows_whole : unwrap_or (rows_at (closed (listed es)) path) [] ≡ e.1
    rows_whole = rows_same (listed es) are path ∙ rows_are

    pub slot_whole : (name : List ℕ) → slot_at (closed (listed es)) path name ≡ lookup (is_at (text_cmp name)) e.1
    slot_whole name = slot_closed (listed es) path are name ∙ ap (λ r. option_and_then (λ (rows : Rows). lookup (is_at (text_cmp name)) rows) r) row_is

    pub names_are : AreNames e.1
    names_are = subst (λ (r : Rows). AreNames r) rows_are (names_at (listed es) path are.valid)

    pub set_is : (v : Rows) → listed (slice_set es i (e.0, v)) ≡ set_value (is_at (text_cmp path)) (listed es) v
    set_is v =
        listed_set es i e.0 v ∙ ap₂ (λ (n : ℕ) (k : List ℕ). slice_set (listed es) n (k, v)) put key_is ∙ set_place (listed es) path v are.sorted there

    pub set_are : (v : Rows) → AreNames v → AreNodes (listed (slice_set es i (e.0, v)))
    set_are v names = subst (λ (o : Objects). AreNodes o) (sym (set_is v)) (set_nodes (listed es) path v are names)

    pub set_whole : (v : Rows) → AreNames v → closed (listed (slice_set es i (e.0, v))) ≡ set_value (is_at (text_cmp path)) (closed (listed es)) v
    set_whole v names = ap closed (set_is v) ∙ closed_set (listed es) path v are (set_nodes (listed es) path v are names) there

    -- an interface removed there
    pub removed_whole : (name : List ℕ) (v : Rows) → v ≡ remove_entry (is_at (text_cmp name)) e.1 → (AreNodes (listed (slice_set es i (e.0, v)))) × (v ≡ rows_without (closed (listed es)) path name)
        × (closed (listed (slice_set es i (e.0, v))) ≡ set_value (is_at (text_cmp path)) (closed (listed es)) (rows_without (closed (listed es)) path name))
    removed_whole name v left =
        let names = subst (λ (r : Rows). AreNames r) (sym left) (rows_left (is_at (text_cmp name)) e.1 names_are) in
        let same : v ≡ rows_without (closed (listed es)) path name = left ∙ ap (remove_entry (is_at (text_cmp name))) (sym rows_whole) in
        (set_are v names, same, set_whole v names ∙ ap (set_value (is_at (text_cmp path)) (closed (listed es))) same)

    pub unchanged : (v : Rows) → v ≡ e.1 → closed (listed (slice_set es i (e.0, v))) ≡ closed (listed es)
    unchanged v same =
        ap closed (set_is v ∙ ap (set_value (is_at (text_cmp path)) (listed es)) same ∙ set_value_same (is_at (text_cmp path)) (listed es) e.1 row_is)

    -- an interface added there
    pub added_there : (name : List ℕ) (slot : ℕ) (v : Rows) → IsTrue (is_object_path path) → IsTrue (is_interface_name name) → v ≡ insert_entry text_cmp e.1 name slot
        → AreNodes (listed (slice_set es i (e.0, v))) × (closed (listed (slice_set es i (e.0, v))) ≡ added (closed (listed es)) path name slot)
    added_there name slot v valid named put =
        let same : v ≡ insert_entry text_cmp (unwrap_or (rows_at (listed es) path) []) name slot = put ∙ ap (λ (r : Rows). insert_entry text_cmp r name slot) (sym rows_are) in
        let names = subst (λ (r : Rows). AreNames r) (sym put) (row_valid e.1 name slot named names_are) in
        let with : listed (slice_set es i (e.0, v)) ≡ with_rows (listed es) path (insert_entry text_cmp (unwrap_or (rows_at (listed es) path) []) name slot) =
        set_is v ∙ ap (set_value (is_at (text_cmp path)) (listed es)) same ∙ sym (cond-true (is_some (rows_at (listed es) path)) _ _ there) in (
          set_are v names,
          ap closed with ∙ closed_added (listed es) path name slot are (subst (λ (o : Objects). AreNodes o) with (set_are v names)),
        )

module _ {Y : Type 0} (es : List (String Y × Rows)) (path : List ℕ) (i : ℕ) (are : AreNodes (listed es)) (put : i ≡ place (listed es) path) (gone : is_some (rows_at (listed es) path) ≡ false) where
  -- an interface added at a path that isn't there itself
  pub added_missing : (k : String Y) → string_bytes k ≡ path → (name : List ℕ) (slot : ℕ) (v : Rows) → IsTrue (is_object_path path) → IsTrue (is_interface_name name) → v ≡ insert_entry text_cmp [] name slot
      → (new : List (String Y × Rows)) → new ≡ insert es i (k, v) → AreNodes (listed new) × (closed (listed new) ≡ added (closed (listed es)) path name slot)
  added_missing k key name slot v valid named row new is =
      let same : v ≡ insert_entry text_cmp (unwrap_or (rows_at (listed es) path) []) name slot = row ∙ ap (λ (r : Rows). insert_entry text_cmp r name slot) (sym (no_rows (rows_at (listed es) path) gone)) in
      let with : listed new ≡ with_rows (listed es) path (insert_entry text_cmp (unwrap_or (rows_at (listed es) path) []) name slot) =
      ap listed is ∙ listed_insert es i k v ∙ ap₂ (λ (n : ℕ) (p : List ℕ). insert (listed es) n (p, v)) put key ∙ insert_place (listed es) path v gone
      ∙ ap (insert_entry text_cmp (listed es) path) same ∙ sym (cond-false (is_some (rows_at (listed es) path)) _ _ gone) in
      let names = subst (λ (r : Rows). AreNames r) (sym same) (row_valid (unwrap_or (rows_at (listed es) path) []) name slot named (names_at (listed es) path are.valid)) in
      let then = with_nodes (listed es) path (insert_entry text_cmp (unwrap_or (rows_at (listed es) path) []) name slot) are valid (row_valid (unwrap_or (rows_at (listed es) path) []) name slot named (names_at (listed es) path are.valid)) in
      (subst (λ (o : Objects). AreNodes o) (sym with) then, ap closed with ∙ closed_added (listed es) path name slot are then)
    where
      no_rows : (r : Option Rows) → is_some r ≡ false → unwrap_or r [] ≡ []
      no_rows None h = refl
      no_rows (Some x) h = grind arith

module _ {Y : Type 0} (es : List (String Y × Rows)) (path : List ℕ) (i : ℕ) (are : AreNodes (listed es)) (put : i ≡ place (listed es) path) (there : is_some (rows_at (listed es) path) ≡ true) (valid : IsTrue (is_object_path path)) (bare : has_below (closed (listed es)) path ≡ false) where
  bare_list : has_below (listed es) path ≡ false
  bare_list = sym (has_below_closed (listed es) path are) ∙ bare

  -- taken out where no path is on the way to it
  pub out_alone : ancestors path ≡ [] → (new : List (String Y × Rows)) → new ≡ remove es i → AreNodes (listed new) × (closed (listed new) ≡ remove_entry (is_at (text_cmp path)) (closed (listed es)))
  out_alone way new is =
      let left : listed new ≡ remove_entry (is_at (text_cmp path)) (listed es) = ap listed is ∙ listed_remove es i ∙ ap (remove (listed es)) put ∙ remove_place (listed es) path are.sorted there in (
        subst (λ (o : Objects). AreNodes o) (sym left) (remove_nodes (listed es) path are),
        ap closed left ∙ closed_out (listed es) path are there bare_list (λ p n u. absurd (both_ways false refl (ap (λ l. has l p) (sym way) ∙ has_ancestors path p ∙ both (nat_le 1 (length p)) (is_below p path) n u))),
      )
    where
      both : (a b : Bool) → a ≡ true → b ≡ true → (a && b) ≡ true
      both true b e f = f
      both false b e f = absurd (both_ways false refl e)

  module _ (q : List ℕ) (way : ancestors path ≡ q ∷ ancestors q) where
    above : is_below q path ≡ true
    above = (parent_is (listed es) path are there bare_list q way).1

    tested : (b : Bool) → is_without (listed es) i q ≡ b → (is_some (rows_at (remove_entry (is_at (text_cmp path)) (listed es)) q) || has_below (remove_entry (is_at (text_cmp path)) (listed es)) q) ≡ b
    tested b h = sym (without_is path q above (listed es) are.sorted are.valid there) ∙ ap (λ n. is_without (listed es) n q) (sym put) ∙ h

    -- taken out where the path above it stays without it
    pub out_covered : is_without (listed es) i q ≡ true → (new : List (String Y × Rows)) → new ≡ remove es i → AreNodes (listed new) × (closed (listed new) ≡ remove_entry (is_at (text_cmp path)) (closed (listed es)))
    out_covered held new is =
        let left : listed new ≡ remove_entry (is_at (text_cmp path)) (listed es) = ap listed is ∙ listed_remove es i ∙ ap (remove (listed es)) put ∙ remove_place (listed es) path are.sorted there in (
          subst (λ (o : Objects). AreNodes o) (sym left) (remove_nodes (listed es) path are),
          ap closed left ∙ closed_out (listed es) path are there bare_list (covered (listed es) path are there bare_list q way (tested true held)),
        )

    -- the path above it in its place
    pub out_replaced : is_without (listed es) i q ≡ false → (k : String Y) (v : Rows) → string_bytes k ≡ q → v ≡ [] → AreNodes (listed (slice_set es i (k, v))) × (closed (listed (slice_set es i (k, v))) ≡ remove_entry (is_at (text_cmp path)) (closed (listed es)))
    out_replaced gone k v key none =
        let left : listed (slice_set es i (k, v)) ≡ insert_entry text_cmp (remove_entry (is_at (text_cmp path)) (listed es)) q [] =
        listed_set es i k v ∙ ap₂ (λ (p : List ℕ) (r : Rows). slice_set (listed es) i (p, r)) key none ∙ ap (λ (n : ℕ). slice_set (listed es) n (q, [])) put
        ∙ replaced_is path q above (listed es) are.sorted are.valid there (tested false gone) in
        let rest = remove_nodes (listed es) path are in
        let path_of : IsTrue (is_object_path q) = (subst (λ l. AllByRecursion (λ q. IsTrue (is_object_path q)) l) way (ways_valid path valid)).0 in
        let then : AreNodes (insert_entry text_cmp (remove_entry (is_at (text_cmp path)) (listed es)) q []) = record {
          sorted = insert_sorted (remove_entry (is_at (text_cmp path)) (listed es)) q [] rest.sorted;
          valid = with_valid (remove_entry (is_at (text_cmp path)) (listed es)) q [] path_of tt rest.valid;
        } in (
          subst (λ (o : Objects). AreNodes o) (sym left) then,
          ap closed left ∙ closed_replaced (listed es) path are there bare_list q way (tested false gone) then,
        )

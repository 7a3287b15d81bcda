-- Steps of writing.
use Rattle.std.proofs.Common.{◌≡◌, ℕ, zero, suc, ◌+◌, ◌-◌, ◌%◌, ◌<◌, ◌≤◌, List, [], ◌∷◌, ◌++◌, length, get_or, map, take, drop, drop-cons, add-one, Option, Some, Result, Ok, Err, refl, sym, ◌∙◌, ap, subst, arith, append_assoc, append-nil, length-append}
use Rattle.std.specs.Int.{w32, w8}
use Rattle.std.proofs.lemmas.List.{take_at, drop_at}
use Rattle.wire_number.specs.Limits.{array_limit}
use Rattle.wire_number.specs.declared.endian.Endian.{Endian}
use Rattle.wire_number.specs.Number.{number_text, padding, counted_text}
use Rattle.wire_signature.specs.SingleType.{SingleType, alignment, type_text}
use Rattle.wire_tree.specs.Datum.{Datum, array as array_datum, struct, variant, Data, no_data, items, entry, data_of, type_of, AreWellTyped, AreElements}
use Rattle.wire_encoding.specs.Encoding.{aligned, first_place, array_form, encoding, encodings, ArraysFit, AllFit}
use Rattle.wire_codec.specs.declared.opening.OpenArray.{OpenArray}
use Rattle.wire_codec.specs.Encoder.{EncoderView, place_of, behind, Within, nearest}
use Rattle.wire_codec.specs.Writing.{Refused, Grown, Writes, WritesText, WritesValue, WritesAll, Opened, IsOpen, Closed, opening}
use Rattle.wire_codec.specs.declared.error.EncodeError.{EncodeError}
use Rattle.wire_codec.specs.declared.error.EncodeError.TheVariants.{Variant, ExcessData, Memory}
use Rattle.wire_number.proofs.Multiples.{padded-is-multiple}
use Rattle.wire_number.proofs.Steps.{length_padding, length-number_text}
use Rattle.wire_codec.proofs.Appends.{opening_long, within_less, nearest_most}

-- ---- soundness of parts

pub elements_well_typed : (t : SingleType) (ds : Data) → AreElements t ds → AreWellTyped ds
elements_well_typed t no_data h = tt
elements_well_typed t (items d ds) h = (h.0.0, elements_well_typed t ds h.1)

-- ---- outputs

-- A part that does not fit makes the whole not fit.
refused : (e : EncodeError) (part fits : Type 0) → (fits → part) → Refused e part → Refused e fits
refused (Variant e) part fits f h = h
refused ExcessData part fits f h = λ k. h (f k)
refused Memory part fits f h = tt

behind_more : (w : EncoderView) (a b : List ℕ) → behind (behind w a) b ≡ behind w (a ++ b)
behind_more w a b = ap (λ bytes. record { order = w.order; shift = w.shift; end = w.end; items = bytes }) (append_assoc w.items a b)

-- nothing was appended
pub nothing : (w : EncoderView) → w ≡ behind w []
nothing w = ap (λ bytes. record { order = w.order; shift = w.shift; end = w.end; items = bytes }) (sym (append-nil w.items))

place_behind : (w : EncoderView) (a : List ℕ) → place_of (behind w a) ≡ place_of w + length a
place_behind w a = omega (arith, length-append w.items a)

grown_more : (old mid new : EncoderView) → Grown old mid → Grown mid new → Grown old new
grown_more old mid new f g = (f.0 ++ g.0, g.1 ∙ ap (λ w. behind w g.0) f.1 ∙ behind_more old f.0 g.0)

grown : {A : Type 0} (r : Result A EncodeError) (body : List ℕ) (fits : Type 0) (old new : EncoderView) → Writes r body fits old new → Grown old new
grown (Ok done) body fits old new h = (body, h.0)
grown (Err e) body fits old new h = h.1

-- ---- texts one after the other

-- For crates above too: the same text, written in other words.
pub same_text : {A : Type 0} (r : Result A EncodeError) (part whole : List ℕ) (part_fits fits : Type 0) (old new : EncoderView)
    → part ≡ whole → (part_fits → fits) → (fits → part_fits) → Writes r part part_fits old new → Writes r whole fits old new
same_text (Ok done) part whole part_fits fits old new e f g h = (h.0 ∙ ap (behind old) e, f h.1)
same_text (Err x) part whole part_fits fits old new e f g h = (
  refused x (part_fits × Within old.end (length old.items + length part)) (fits × Within old.end (length old.items + length whole))
      (λ k. (g k.0, subst (λ (text : List ℕ). Within old.end (length old.items + length text)) (sym e) k.1)) h.0,
  h.1,
)

-- what stands after a front that was written
after_front : {A : Type 0} (r : Result A EncodeError) (front rest : List ℕ) (rest_fits fits : Type 0) (old mid new : EncoderView)
    → mid ≡ behind old front → (rest_fits → fits) → (fits → rest_fits) → Writes r rest rest_fits mid new → Writes r (front ++ rest) fits old new
after_front {A} r front rest rest_fits fits old mid new e f g h = by r (subst (λ (w : EncoderView). Writes r rest rest_fits w new) e h) where
  long : length old.items + length (front ++ rest) ≡ length (old.items ++ front) + length rest
  long = omega (arith, length-append front rest, length-append old.items front)

  by : (r : Result A EncodeError) → Writes r rest rest_fits (behind old front) new → Writes r (front ++ rest) fits old new
  by (Ok done) h = (h.0 ∙ behind_more old front rest, f h.1)
  by (Err x) h = (
    refused x (rest_fits × Within old.end (length (old.items ++ front) + length rest)) (fits × Within old.end (length old.items + length (front ++ rest)))
        (λ k. (g k.0, subst (λ (n : ℕ). Within old.end n) long k.1)) h.0,
    grown_more old (behind old front) new (front, refl) h.1,
  )

-- the same of a text that depends on its place
after_place : {A : Type 0} (r : Result A EncodeError) (front : List ℕ) (text : Endian → ℕ → List ℕ) (fitting : Endian → ℕ → Type 0) (fits : Type 0) (place : ℕ) (old mid new : EncoderView)
    → mid ≡ behind old front → place_of old + length front ≡ place → (fitting old.order place → fits) → (fits → fitting old.order place)
    → Writes r (text mid.order (place_of mid)) (fitting mid.order (place_of mid)) mid new → Writes r (front ++ text old.order place) fits old new
after_place r front text fitting fits place old mid new e there f g h =
    after_front r front (text old.order place) (fitting old.order place) fits old (behind old front) new refl f g
    (subst (λ (p : ℕ). Writes r (text old.order p) (fitting old.order p) (behind old front) new) (place_behind old front ∙ there)
    (subst (λ (w : EncoderView). Writes r (text w.order (place_of w)) (fitting w.order (place_of w)) w new) e h))

-- A front that is refused makes what begins with it refused.
front_refused : (e : EncodeError) (front rest : List ℕ) (front_fits fits : Type 0) (old new : EncoderView)
    → (fits → front_fits) → Writes {A = Unit {0}} (Err e) front front_fits old new → Writes {A = Unit {0}} (Err e) (front ++ rest) fits old new
front_refused e front rest front_fits fits old new f h = (
  refused e (front_fits × Within old.end (length old.items + length front)) (fits × Within old.end (length old.items + length (front ++ rest)))
      (λ k. (f k.0, within_less old.end _ _ (omega (arith, length-append front rest)) k.1)) h.0,
  h.1,
)

pub text_after : {A : Type 0} (r : Result A EncodeError) (front rest : List ℕ) (old mid new : EncoderView)
    → WritesText {A = Unit {0}} (Ok tt) front old mid → WritesText r rest mid new → WritesText r (front ++ rest) old new
text_after r front rest old mid new h k = after_front r front rest _ _ old mid new h.0 (λ k. k) (λ k. k) k

pub text_refused : (e : EncodeError) (front rest : List ℕ) (old new : EncoderView)
    → WritesText {A = Unit {0}} (Err e) front old new → WritesText {A = Unit {0}} (Err e) (front ++ rest) old new
text_refused e front rest old new h = front_refused e front rest _ _ old new (λ k. k) h

-- ---- values one after the other

pub none_written : (w : EncoderView) → WritesAll {A = Unit {0}} (Ok tt) no_data w w
unfolding encodings AllFit
none_written w = (nothing w, tt)

pub rest_written : {A : Type 0} (r : Result A EncodeError) (d : Datum) (ds : Data) (old mid new : EncoderView)
    → WritesValue {A = Unit {0}} (Ok tt) d old mid → WritesAll r ds mid new → WritesAll r (items d ds) old new
unfolding encodings AllFit
rest_written r d ds old mid new h k =
    after_place r (encoding old.order (place_of old) d) (λ order place. encodings order place ds) (λ order place. AllFit order place ds) _ _ old mid new h.0 refl
    (λ j. (h.1, j)) (λ j. j.1) k

pub first_refused : (e : EncodeError) (d : Datum) (ds : Data) (old new : EncoderView)
    → WritesValue {A = Unit {0}} (Err e) d old new → WritesAll {A = Unit {0}} (Err e) (items d ds) old new
unfolding encodings AllFit
first_refused e d ds old new h = front_refused e (encoding old.order (place_of old) d) _ (ArraysFit old.order (place_of old) d) _ old new (λ k. k.0) h

last_written : (r : Result (Unit {0}) EncodeError) (d : Datum) (old new : EncoderView) → WritesValue r d old new → WritesAll r (items d no_data) old new
last_written (Ok done) d old new h = rest_written {A = Unit {0}} (Ok tt) d no_data old new new h (none_written new)
last_written (Err e) d old new h = first_refused e d no_data old new h

-- Whatever a writing of the values that are left does, it is a writing of all of them.
abbrev pub Writing : Data → Data → EncoderView → EncoderView → Type 0
Writing all left old now = (r : Result (Unit {0}) EncodeError) (new : EncoderView) → WritesAll r left now new → WritesAll r all old new

next_item : {A : Type 0} (f : A → Datum) (xs : List A) (i : ℕ) (x : A) → i < length xs → x ≡ get_or xs i x
    → data_of (map f (drop i xs)) ≡ items (f x) (data_of (map f (drop (i + 1) xs)))
next_item f xs i x h e =
    let first : drop i xs ≡ x ∷ drop (i + 1) xs = rw add-one (drop-cons xs i x h ∙ ap (λ u. u ∷ drop (suc i) xs) (sym e)) in
    ap (λ us. data_of (map f us)) first

none_left : {A : Type 0} (f : A → Datum) (xs : List A) (i : ℕ) → length xs ≤ i → data_of (map f (drop i xs)) ≡ no_data
none_left f [] zero h = refl
none_left f [] (suc i) h = refl
none_left f (x ∷ xs) zero h = absurd (omega arith)
none_left f (x ∷ xs) (suc i) h = none_left f xs i (omega arith)

module _ {A : Type 0} (f : A → Datum) (all : Data) (xs : List A) (i : ℕ) (old now : EncoderView) (w : Writing all (data_of (map f (drop i xs))) old now) where
  -- A value that was written is one less that is left.
  pub write_next : (x : A) (next : EncoderView) → i < length xs → x ≡ get_or xs i x → WritesValue {A = Unit {0}} (Ok tt) (f x) now next
      → Writing all (data_of (map f (drop (i + 1) xs))) old next
  write_next x next h e k r new rest =
      w r new (subst (λ (ds : Data). WritesAll r ds now new) (sym (next_item f xs i x h e)) (rest_written r (f x) (data_of (map f (drop (i + 1) xs))) now next new k rest))

  -- A value that is refused makes all of them refused.
  pub write_refused : (x : A) (next : EncoderView) (e : EncodeError) → i < length xs → x ≡ get_or xs i x → WritesValue {A = Unit {0}} (Err e) (f x) now next
      → WritesAll {A = Unit {0}} (Err e) all old next
  write_refused x next e h s k =
      w (Err e) next (subst (λ (ds : Data). WritesAll {A = Unit {0}} (Err e) ds now next) (sym (next_item f xs i x h s))
      (first_refused e (f x) (data_of (map f (drop (i + 1) xs))) now next k))

  -- No value is left.
  pub write_done : length xs ≤ i → WritesAll {A = Unit {0}} (Ok tt) all old now
  write_done h = w (Ok tt) now (subst (λ (ds : Data). WritesAll {A = Unit {0}} (Ok tt) ds now now) (sym (none_left f xs i h)) (none_written now))

-- ---- arrays

-- an array takes what opens it, and its elements
form_long : (order : Endian) (place boundary : ℕ) (body : List ℕ) → length (array_form order place boundary body) ≡ length (opening place boundary) + length body
form_long order place boundary body =
    let gap : List ℕ = padding (aligned place 4 + 4) boundary in
    let digits : List ℕ = number_text w32 order (length body) in
    omega (
      arith,
      length-append (padding place 4) (digits ++ (gap ++ body)),
      length-append digits (gap ++ body),
      length-append gap body,
      length-number_text w32 order (length body),
      opening_long place boundary,
      length_padding place 4,
      length_padding (aligned place 4 + 4) boundary,
    )

closed_list : (order : Endian) (old front gap body full : List ℕ) (place n : ℕ) → place ≡ length old + length front
    → full ≡ (old ++ (front ++ (0 ∷ 0 ∷ 0 ∷ 0 ∷ gap))) ++ body
    → take place full ++ (number_text w32 order n ++ drop (place + 4) full) ≡ old ++ (front ++ (number_text w32 order n ++ (gap ++ body)))
closed_list order old front gap body full place n e f =
    let zeros : List ℕ = 0 ∷ 0 ∷ 0 ∷ 0 ∷ [] in
    let digits : List ℕ = number_text w32 order n in
    let one : full ≡ (old ++ front) ++ (zeros ++ (gap ++ body)) =
    f ∙ append_assoc old (front ++ (zeros ++ gap)) body ∙ ap (λ r. old ++ r) (append_assoc front (zeros ++ gap) body) ∙ sym (append_assoc old front (zeros ++ (gap ++ body))) in
    let two : full ≡ ((old ++ front) ++ zeros) ++ (gap ++ body) = one ∙ sym (append_assoc (old ++ front) zeros (gap ++ body)) in
    let long : length (old ++ front) ≡ place = length-append old front ∙ sym e in
    let longer : length ((old ++ front) ++ zeros) ≡ place + 4 = length-append (old ++ front) zeros ∙ ap (λ k. k + 4) long in
    let first : take place full ≡ old ++ front = ap (take place) one ∙ take_at (old ++ front) (zeros ++ (gap ++ body)) place long in
    let last : drop (place + 4) full ≡ gap ++ body = ap (drop (place + 4)) two ∙ drop_at ((old ++ front) ++ zeros) (gap ++ body) (place + 4) longer in
    ap (λ r. r ++ (digits ++ drop (place + 4) full)) first ∙ ap (λ r. (old ++ front) ++ (digits ++ r)) last
    ∙ append_assoc old front (digits ++ (gap ++ body))

module _ (array : OpenArray) (boundary : ℕ) (old mid : EncoderView) (o : Opened array boundary old mid) where
  front_items : mid.items ≡ old.items ++ opening (place_of old) boundary
  front_items = ap (λ (w : EncoderView). w.items) o.front

  front_long : length mid.items ≡ length old.items + length (opening (place_of old) boundary)
  front_long = ap length front_items ∙ length-append old.items (opening (place_of old) boundary)

  -- where the elements begin
  elements_place : place_of mid ≡ first_place (place_of old) boundary
  elements_place = ap place_of o.front ∙ omega (arith, length-append old.items (opening (place_of old) boundary), opening_long (place_of old) boundary)

  -- For crates above too: the elements begin on their boundary.
  pub elements_placed : 1 ≤ boundary → place_of mid % boundary ≡ 0
  elements_placed some = ap (λ n. n % boundary) elements_place ∙ padded-is-multiple (aligned (place_of old) 4 + 4) boundary (omega (arith, some))

  -- For crates above too: an array stays open while its elements are written.
  pub stays_open : {A : Type 0} (r : Result A EncodeError) (body : List ℕ) (fits : Type 0) (full : EncoderView) → Writes r body fits mid full → IsOpen array full
  stays_open r body fits full h =
      let g = grown r body fits mid full h in record {
        place = omega (arith, o.place, o.start, front_long, opening_long (place_of old) boundary);
        start = omega (arith, o.start, ap (λ (w : EncoderView). length w.items) g.1, length-append mid.items g.0);
        end = ap (λ (w : EncoderView). w.end) (g.1) ∙ ap (λ (w : EncoderView). w.end) o.front ∙ ap (λ e. Some (nearest e (array.start + array_limit))) (sym o.outer);
      }

  -- what a closed array is, whatever was written of its elements
  closed_form : (body : List ℕ) (full new : EncoderView) → full ≡ behind mid body → Closed array full new
      → new ≡ behind old (array_form old.order (place_of old) boundary body)
  closed_form body full new e c =
      let place : ℕ = place_of old in
      let gap : List ℕ = padding (aligned place 4 + 4) boundary in
      let whole : full.items ≡ (old.items ++ opening place boundary) ++ body = ap (λ (w : EncoderView). w.items) e ∙ ap (λ r. r ++ body) front_items in
      let long : length full.items - array.start ≡ length body =
      omega (arith, o.start, ap (λ (w : EncoderView). length w.items) e, length-append mid.items body) in
      let there : array.place ≡ length old.items + length (padding place 4) = omega (arith, o.place, length_padding place 4) in
      let head : full ≡ record { order = old.order; shift = old.shift; end = full.end; items = full.items } =
      ap (λ (w : EncoderView). record { order = w.order; shift = w.shift; end = full.end; items = full.items }) (e ∙ ap (λ (w : EncoderView). behind w body) o.front) in
      c.text
      ∙ ap (λ (w : EncoderView). record { order = w.order; shift = w.shift; end = array.outer_end; items = take array.place full.items ++ (number_text w32 w.order (length full.items - array.start) ++ drop (array.place + 4) full.items) }) head
      ∙ ap (λ end. record { order = old.order; shift = old.shift; end = end; items = take array.place full.items ++ (number_text w32 old.order (length full.items - array.start) ++ drop (array.place + 4) full.items) }) o.outer
      ∙ ap (λ bytes. record { order = old.order; shift = old.shift; end = old.end; items = bytes })
      (closed_list old.order old.items (padding place 4) gap body full.items array.place (length full.items - array.start) there whole
      ∙ ap (λ n. old.items ++ (padding place 4 ++ (number_text w32 old.order n ++ (gap ++ body)))) long)

-- For crates above too: an array of elements of the type `t`, the boundary of whose elements is `boundary`. It was opened, its
-- elements were written or refused, and it was closed: it is written or refused.
pub array_written : {A : Type 0} (r : Result A EncodeError) (t : SingleType) (boundary : ℕ) (ds : Data) (array : OpenArray) (old mid full new : EncoderView)
    → boundary ≡ alignment t → Opened array boundary old mid → WritesAll r ds mid full → Closed array full new → WritesValue r (array_datum t ds) old new
unfolding encoding ArraysFit
array_written {A} r t boundary ds array old mid full new same o w c = by r elements where
  place : ℕ
  place = place_of old

  p : ℕ
  p = first_place place (alignment t)

  body : List ℕ
  body = encodings old.order p ds

  opened : Opened array (alignment t) old mid
  opened = subst (λ (b : ℕ). Opened array b old mid) same o

  elements : Writes r body (AllFit old.order p ds) mid full
  elements =
      subst (λ (n : ℕ). Writes r (encodings old.order n ds) (AllFit old.order n ds) mid full) (elements_place array (alignment t) old mid opened)
      (subst (λ (order : Endian). Writes r (encodings order (place_of mid) ds) (AllFit order (place_of mid) ds) mid full) (ap (λ (u : EncoderView). u.order) opened.front) w)

  reach : length old.items + length (array_form old.order place (alignment t) body) ≡ length mid.items + length body
  reach = omega (arith, form_long old.order place (alignment t) body, front_long array (alignment t) old mid opened)

  by : (r : Result A EncodeError) → Writes r body (AllFit old.order p ds) mid full → WritesValue r (array_datum t ds) old new
  by (Ok done) h = (
    closed_form array (alignment t) old mid opened body full new h.0 c,
    (omega (arith, c.long, opened.start, ap (λ (u : EncoderView). length u.items) h.0, length-append mid.items body), h.1),
  )
  by (Err e) h = (
    refused e (AllFit old.order p ds × Within mid.end (length mid.items + length body))
        (ArraysFit old.order place (array_datum t ds) × Within old.end (length old.items + length (encoding old.order place (array_datum t ds))))
        (λ k. (
          k.0.1,
          subst (λ (end : Option ℕ). Within end (length mid.items + length body)) (sym (ap (λ (u : EncoderView). u.end) opened.front))
              (nearest_most old.end (array.start + array_limit) (length mid.items + length body) (subst (λ (n : ℕ). Within old.end n) reach k.1) (omega (arith, k.0.0, opened.start))),
        ))
        h.0,
    (_, closed_form array (alignment t) old mid opened h.1.0 full new h.1.1 c),
  )

-- The same: there was no room to open the array, and so it is refused.
pub opening_refused : (e : EncodeError) (t : SingleType) (boundary : ℕ) (ds : Data) (old new : EncoderView)
    → boundary ≡ alignment t → WritesText {A = Unit {0}} (Err e) (opening (place_of old) boundary) old new → WritesValue {A = Unit {0}} (Err e) (array_datum t ds) old new
unfolding encoding
opening_refused e t boundary ds old new same h =
    let place : ℕ = place_of old in
    let body : List ℕ = encodings old.order (first_place place (alignment t)) ds in
    let long : length (opening place boundary) ≤ length (array_form old.order place (alignment t) body) =
    omega (arith, form_long old.order place (alignment t) body, ap (λ b. length (opening place b)) same) in (
      refused e (Unit {0} × Within old.end (length old.items + length (opening place boundary)))
          (ArraysFit old.order place (array_datum t ds) × Within old.end (length old.items + length (encoding old.order place (array_datum t ds))))
          (λ k. (tt, within_less old.end _ _ (omega (arith, long)) k.1)) h.0,
      h.1,
    )

-- ---- structs, variants, dict entries

pub struct_written : {A : Type 0} (r : Result A EncodeError) (ds : Data) (old mid new : EncoderView)
    → WritesText {A = Unit {0}} (Ok tt) (padding (place_of old) 8) old mid → WritesAll r ds mid new → WritesValue r (struct ds) old new
unfolding encoding ArraysFit
struct_written r ds old mid new h k =
    after_place r (padding (place_of old) 8) (λ order place. encodings order place ds) (λ order place. AllFit order place ds) _ (aligned (place_of old) 8) old mid new h.0
    (ap (λ n. place_of old + n) (length_padding (place_of old) 8)) (λ j. j) (λ j. j) k

pub struct_refused : (e : EncodeError) (ds : Data) (old new : EncoderView)
    → WritesText {A = Unit {0}} (Err e) (padding (place_of old) 8) old new → WritesValue {A = Unit {0}} (Err e) (struct ds) old new
unfolding encoding ArraysFit
struct_refused e ds old new h = front_refused e (padding (place_of old) 8) _ _ _ old new (λ k. tt) h

pub variant_written : {A : Type 0} (r : Result A EncodeError) (d : Datum) (old mid new : EncoderView)
    → WritesText {A = Unit {0}} (Ok tt) (counted_text w8 old.order (type_text (type_of d))) old mid → WritesValue r d mid new → WritesValue r (variant d) old new
unfolding encoding ArraysFit
variant_written r d old mid new h k =
    after_place r (counted_text w8 old.order (type_text (type_of d))) (λ order place. encoding order place d) (λ order place. ArraysFit order place d) _ _ old mid new h.0 refl
    (λ j. j) (λ j. j) k

pub variant_refused : (e : EncodeError) (d : Datum) (old new : EncoderView)
    → WritesText {A = Unit {0}} (Err e) (counted_text w8 old.order (type_text (type_of d))) old new → WritesValue {A = Unit {0}} (Err e) (variant d) old new
unfolding encoding ArraysFit
variant_refused e d old new h = front_refused e (counted_text w8 old.order (type_text (type_of d))) _ _ _ old new (λ k. tt) h

pub entry_written : (r : Result (Unit {0}) EncodeError) (a b : Datum) (old mid next new : EncoderView)
    → WritesText {A = Unit {0}} (Ok tt) (padding (place_of old) 8) old mid → WritesValue {A = Unit {0}} (Ok tt) a mid next → WritesValue r b next new
    → WritesValue r (entry (a, b)) old new
entry_written r a b old mid next new e f h =
    struct_written r (items a (items b no_data)) old mid new e (rest_written r a (items b no_data) mid next new f (last_written r b next new h))

-- A key that is refused makes its entry refused.
pub key_refused : (e : EncodeError) (a b : Datum) (old mid new : EncoderView)
    → WritesText {A = Unit {0}} (Ok tt) (padding (place_of old) 8) old mid → WritesValue {A = Unit {0}} (Err e) a mid new → WritesValue {A = Unit {0}} (Err e) (entry (a, b)) old new
key_refused e a b old mid new f h = struct_written {A = Unit {0}} (Err e) (items a (items b no_data)) old mid new f (first_refused e a (items b no_data) mid new h)

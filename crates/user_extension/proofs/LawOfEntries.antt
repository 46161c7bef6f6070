-- What is written of an entry is read again.
use Rattle.std.proofs.Common.{◌≡◌, ℕ, zero, suc, ◌+◌, ◌%◌, ◌<◌, ◌≤◌, Bool, true, false, cond, ltb, List, [], ◌∷◌, ◌++◌, length, get_or, drop, replicate}
use Rattle.std.proofs.Common.{Some, refl, sym, ap, ◌∙◌, subst, arith, append-nil, append_assoc, length-append, inl, inr, ◌||◌}
use Rattle.std.proofs.lemmas.Bool.{cases_lt, lt-ltb, le-ltb}
use Rattle.std.proofs.lemmas.List.{drop_at, drop_all, length-replicate}
use Rattle.ti_caps.specs.Tables.{Capability, IsCapability, capability}
use Rattle.ti_caps.specs.declared.capability.Kind.TheVariants.{Flag, Number, Text}
use Rattle.ti_layout.specs.declared.layout.Format.{Format}
use Rattle.ti_layout.specs.declared.layout.Format.TheVariants.{Legacy, Extended}
use Rattle.ti_layout.specs.Layout.{Sections, entry_bytes, entry_size, first_negative}
use Rattle.ti_layout.specs.Image.{format_of, image_in, is_wide, sections_of, written_count}
use Rattle.ti_layout.specs.Reading.{AreSound, Reads, entry_end, format_in}
use Rattle.ti_layout.specs.Values.{AgreesIfSome, Contents, content_number}
use Rattle.ti_text.specs.Texts.{HasNoNul}
use Rattle.ti_layout.specs.Laws as layout
use Rattle.ti_layout.proofs.Below.{length-below}
use Rattle.ti_layout.proofs.ImageReading.{image_in-with, images_in_formats_are_read, number-plain, sections-sound_in}
use Rattle.ti_layout.proofs.Parts.{found}
use Rattle.ti_layout.proofs.Sizes.{length-image_in, strings_small_in}
use Rattle.user_extension.specs.UserDefined.{AreUserDefined, IsValue, Row}
use Rattle.user_extension.specs.Extension.{Fits, entry, entry_format, extension, some_wide}
use Rattle.user_extension.specs.Reading.{EndsWell, IsExtension, after_entry, parts_in, rows_in, rows_after}
use Rattle.user_extension.specs.Laws.{EntriesAreRead, HoldsNumbers, as_read}
use Rattle.user_extension.proofs.Entry.{entry_none, entry_some, extension_small, image_small}
use Rattle.user_extension.proofs.Law.{extensions_are_read}
use Rattle.user_extension.proofs.Assembling.{length-extension}

-- ---- the format holds each number

or_true : (b : Bool) → (b || true) ≡ true
or_true true = refl
or_true false = refl

holds_narrow : (f : Format) (n : ℕ) → n ≤ 32767 → n < first_negative f
holds_narrow Legacy n le = omega arith
holds_narrow Extended n le = omega arith

wide_row : (rows : List Row) (k n : ℕ) (d : Row) → k < length rows → (get_or rows k d).1 ≡ content_number n → 32767 < n → some_wide rows ≡ true
wide_row [] k n d lt e wide = absurd (omega (arith, lt))
wide_row (u ∷ rows) zero n d lt e wide =
    let t : is_wide (Some u.1) ≡ true = ap (λ c. is_wide (Some c)) e ∙ lt-ltb 32767 n wide in ap (λ b. b || some_wide rows) t
wide_row (u ∷ rows) (suc k) n d lt e wide = ap (λ b. is_wide (Some u.1) || b) (wide_row rows k n d (omega (arith, lt)) e wide) ∙ or_true (is_wide (Some u.1))

row_fits : (c : Contents) (rows : List Row) (k n : ℕ) (d : Row) → AreUserDefined rows → k < length rows → (get_or rows k d).1 ≡ content_number n
    → (b : Bool) → some_wide rows ≡ b → n < first_negative (cond b Extended (format_of c))
row_fits c rows k n d are lt e true w = let v = subst IsValue e (are.values k d lt) in omega (arith, v)
row_fits c rows k n d are lt e false w = elim (cases_lt 32767 n) [
  | inl wide ↦ let never : true ≡ false = sym (wide_row rows k n d lt e wide) ∙ w in absurd cc
  | inr narrow ↦ holds_narrow (format_of c) n narrow
]

cap_fits : (c : Contents) (k n : ℕ) → k < 39 → c (capability Number k) ≡ Some (content_number n) → n ≤ 2147483647 → (b : Bool)
    → n < first_negative (cond b Extended (format_of c))
cap_fits c k n lt e fits true = omega arith
cap_fits c k n lt e fits false = number-plain c k n lt e fits

-- ---- where the entry ends

sized : (w w' : Format) (n n' f f' m m' t t' s s' : ℕ) → w ≡ w' → n ≡ n' → f ≡ f' → m ≡ m' → t ≡ t' → s ≡ s'
    → entry_size w n f m t s ≡ entry_size w' n' f' m' t' s'
sized w w' n n' f f' m m' t t' s s' a b c d e g = rw (a, b, c, d, e, g) refl

ends : (w : Format) (field rest : List ℕ) (c : Contents) → AreSound w (record (sections_of w field c) { rest = rest })
    → (entry_end (image_in w field c ++ rest) ≡ length (image_in w field c)) × (format_in (image_in w field c ++ rest) ≡ w)
ends w field rest c sound =
    let s : Sections = record (sections_of w field c) { rest = rest } in
    let f = found w s sound in
    let b = entry_bytes w s in
    let same = image_in-with w field rest c in
    let size : entry_end b ≡ length (image_in w field c) =
    sized (format_in b) w _ _ _ _ _ _ _ _ _ _ f.format_is f.names_size (f.flag_count ∙ length-below _ (written_count c Flag))
    (f.number_count ∙ length-below _ (written_count c Number))
    (f.text_count ∙ length-below _ (written_count c Text)) f.strings_size ∙ sym (length-image_in w field c) in
    subst (λ (x : List ℕ). (entry_end x ≡ length (image_in w field c)) × (format_in x ≡ w)) (sym same) (size, f.format_is)

-- ---- what follows it

behind : (image ext : List ℕ) → drop (length image + length image % 2) (image ++ (replicate (length image % 2) 0 ++ ext)) ≡ ext
behind image ext =
    let gap : List ℕ = replicate (length image % 2) 0 in
    ap (λ x. drop (length image + length image % 2) x) (sym (append_assoc image gap ext))
    ∙ drop_at (image ++ gap) ext (length image + length image % 2) (let g = length-replicate {A = ℕ} (length image % 2) 0 in
    omega (arith, length-append image gap, g))

-- the extension of a list of at least one has its header
long_enough : (w : Format) (rows : List Row) → 10 ≤ length (extension w rows)
long_enough w rows = let l = length-extension w rows in omega arith

module _ (field : List ℕ) (c : Contents) (some : 0 < length field) (short : length field ≤ 127) (no_nul : HasNoNul field)
    (agree : (k : Capability) → IsCapability k → AgreesIfSome k (c k)) where
  read_of : (rows : List Row) → AreUserDefined rows → Fits field c rows → (rest : List ℕ) → entry field c rows ≡ image_in (entry_format c rows) field c ++ rest
      → (read : Contents) × Reads (entry field c rows) field read × ((k : Capability) → IsCapability k → read k ≡ layout.without_cancel (c k))
      × (entry_end (entry field c rows) ≡ length (image_in (entry_format c rows) field c)) × (format_in (entry field c rows) ≡ entry_format c rows)
  read_of rows are fits rest e =
      let w = entry_format c rows in
      let holds : layout.HoldsNumbers w c =
      λ k n lt is. cap_fits c k n lt is (subst (AgreesIfSome (capability Number k)) is (agree (capability Number k) lt)).1 (some_wide rows) in
      let r = images_in_formats_are_read w field rest c some short no_nul agree holds (image_small field c rows fits) in
      let sound = sections-sound_in w field rest c holds
      (record { some = some; short = short; no_nul = no_nul; agree = agree; small = strings_small_in w field c (image_small field c rows fits) }) in
      let end = ends w field rest c sound in
      let moved = subst (λ (x : List ℕ). (entry_end x ≡ length (image_in w field c)) × (format_in x ≡ w)) (sym e) end in
      (r.0, subst (λ (x : List ℕ). Reads x field r.0) (sym e) r.1, r.2, moved.0, moved.1)

  user_numbers : (rows : List Row) → AreUserDefined rows → HoldsNumbers (entry_format c rows) rows
  user_numbers rows are i n d lt is = row_fits c rows i n d are lt is (some_wide rows) refl

  pub written : (rows : List Row) → AreUserDefined rows → Fits field c rows
      → (read : Contents) × Reads (entry field c rows) field read × ((k : Capability) → IsCapability k → read k ≡ layout.without_cancel (c k))
      × EndsWell (entry field c rows) × (rows_after (entry field c rows) ≡ as_read rows)
  written [] are fits =
      let image = image_in (entry_format c []) field c in
      let alone : entry field c [] ≡ image = entry_none field c [] refl in
      let r = read_of [] are fits [] (alone ∙ sym (append-nil image)) in
      let after : after_entry (entry field c []) ≡ [] =
      drop_all (entry_end (entry field c []) + entry_end (entry field c []) % 2) (entry field c []) (let l = ap length alone in omega (arith, r.3, l)) in
      let test : ltb (length (after_entry (entry field c []))) 10 ≡ true = lt-ltb _ _ (let l = ap length after in omega (arith, l)) in (
        r.0,
        r.1,
        r.2,
        λ long. absurd (let l = ap length after in omega (arith, l, long)),
        ap
            (λ b. cond b [] (rows_in (format_in (entry field c [])) (parts_in (format_in (entry field c [])) (after_entry (entry field c []))))) test,
      )
  written (u ∷ rest) are fits =
      let rows = u ∷ rest in
      let w = entry_format c rows in
      let image = image_in w field c in
      let e = entry_some field c rows (omega arith) in
      let r = read_of rows are fits (replicate (length image % 2) 0 ++ extension w rows) e in
      let after : after_entry (entry field c rows) ≡ extension w rows =
      ap (λ (n : ℕ). drop (n + n % 2) (entry field c rows)) r.3 ∙ ap (λ x. drop (length image + length image % 2) x) e ∙ behind image (extension w rows) in
      let again = extensions_are_read w rows [] are (user_numbers rows are) (extension_small field c rows (omega arith) fits) in
      let whole : extension w rows ++ [] ≡ after_entry (entry field c rows) = append-nil (extension w rows) ∙ sym after in
      let here : IsExtension w (after_entry (entry field c rows)) × (rows_in w (parts_in w (after_entry (entry field c rows))) ≡ as_read rows) =
      subst (λ x. IsExtension w x × (rows_in w (parts_in w x) ≡ as_read rows)) whole again in
      let there : IsExtension (format_in (entry field c rows)) (after_entry (entry field c rows))
      × (rows_in (format_in (entry field c rows)) (parts_in (format_in (entry field c rows)) (after_entry (entry field c rows))) ≡ as_read rows) =
      subst (λ f. IsExtension f (after_entry (entry field c rows)) × (rows_in f (parts_in f (after_entry (entry field c rows))) ≡ as_read rows))
      (sym r.4) here in
      let test : ltb (length (after_entry (entry field c rows))) 10 ≡ false = le-ltb _ _ (let l = ap length after in omega (arith, l, long_enough w rows)) in (
        r.0,
        r.1,
        r.2,
        λ long. there.0,
        ap (λ b. cond b [] (rows_in (format_in (entry field c rows)) (parts_in (format_in (entry field c rows)) (after_entry (entry field c rows))))) test
            ∙ there.1,
      )

pub entries_are_read : EntriesAreRead
entries_are_read field c rows some short no_nul agree are fits = written field c some short no_nul agree rows are fits

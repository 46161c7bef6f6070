-- What is read of an entry that is written with characters.
use Rattle.std.proofs.Common.{◌≡◌, ℕ, ◌<◌, List, [], ◌∷◌, length, Option, Some, None, refl, sym, ap, ◌∙◌, subst, arith, inl, inr}
use Rattle.ti_caps.specs.Tables.{Capability, IsCapability}
use Rattle.ti_layout.specs.Laws.{without_cancel}
use Rattle.ti_layout.specs.Reading.{EntriesHaveOneReading, Reads}
use Rattle.ti_layout.specs.Values.{AgreesIfSome, Content, Contents, content_true, content_number, content_text, content_cancelled}
use Rattle.user_extension.specs.Extension.{Fits, entry}
use Rattle.user_extension.specs.Laws.{EntriesAreRead, as_read}
use Rattle.user_extension.specs.Reading.{EndsWell, rows_after}
use Rattle.user_extension.specs.UserDefined.{Row}
use Rattle.user_compiling.proofs.Imaging.{entries_are_of_values}
use Rattle.everyday_constants.specs.Entries.{CanBeWritten, IsWithCharacters, is_kept, is_written, contents_with, content_with, present_rows}
use Rattle.everyday_constants.specs.Laws.{CharactersAreRead, CharactersStay, IsSoundEntry, OneWithCharacters, ReadsWithCharacters, WrittenCharactersStay}
use Rattle.everyday_constants.proofs.Holding.{agrees-with, said-agrees}
use Rattle.everyday_constants.proofs.Written.{no-nul}

pub present-read : (rows : List Row) → present_rows (as_read rows) ≡ rows
present-read [] = refl
present-read (r ∷ rs) = ap (λ (all : List Row). r ∷ all) (present-read rs)

read-agrees : (bytes names : List ℕ) (held : Contents) → Reads bytes names held → (c : Capability) → AgreesIfSome c (held c)
read-agrees bytes names held r c =
    subst (AgreesIfSome c) (sym (ap (λ (t : Contents). t c) r.held))
    (said-agrees c r.format r.sections.flags r.sections.numbers r.sections.offsets r.sections.strings c.kind refl)

some-long : (bytes names : List ℕ) (held : Contents) → Reads bytes names held → 0 < length names
some-long bytes names held r =
    let some = r.sound.some_names in
    let is = ap length r.named in
    omega (arith, some, is)

-- a value with characters stays so
stays-with : CharactersStay → (o : Option Content) → without_cancel (content_with (without_cancel (content_with o))) ≡ without_cancel (content_with o)
stays-with stay None = refl
stays-with stay (Some content_true) = refl
stays-with stay (Some (content_number n)) = refl
stays-with stay (Some (content_text t)) = ap (λ (text : List ℕ). Some (content_text text)) (stay t)
stays-with stay (Some content_cancelled) = refl

-- what is read of an entry that was written
record IsReadBack (names : List ℕ) (c : Contents) (rows : List Row) : Type 0 where
  given : Contents
  reads : Reads (entry names (contents_with c) rows) names given
  tables : (k : Capability) → IsCapability k → given k ≡ without_cancel (content_with (c k))
  ends_well : EndsWell (entry names (contents_with c) rows)
  are_rows : rows_after (entry names (contents_with c) rows) ≡ as_read rows

module _ (read : EntriesAreRead) (one : EntriesHaveOneReading) (field bytes : List ℕ) (contents : Contents) (s : IsSoundEntry field bytes contents)
    (names : List ℕ) (c : Contents) (can : CanBeWritten bytes names c)
  where
    same-rows : present_rows (rows_after bytes) ≡ s.rows
    same-rows = ap present_rows s.are_rows ∙ present-read s.rows

    read-back : IsReadBack names c s.rows
    read-back =
        let back = read names (contents_with c) s.rows (some-long bytes names c can.reads) can.short (no-nul bytes names c can.reads)
        (λ k valid. agrees-with k (c k) (read-agrees bytes names c can.reads k)) s.user_defined (subst (Fits names (contents_with c)) same-rows can.fits) in
        record { given = back.0; reads = back.1; tables = back.2; ends_well = back.3; are_rows = back.4 }

    made-is : entry names (contents_with c) (present_rows (rows_after bytes)) ≡ entry names (contents_with c) s.rows
    made-is = ap (entry names (contents_with c)) same-rows

    reads-written : ReadsWithCharacters field bytes (entry names (contents_with c) (present_rows (rows_after bytes))) contents
    reads-written =
        let back = read-back in
        let same = one.0 bytes field names contents c s.reads can.reads in
        subst (λ (made : List ℕ). ReadsWithCharacters field bytes made contents) (sym made-is)
        (record {
          given = back.given;
          are_given = inl (λ k valid. back.tables k valid ∙ ap (λ (t : Contents). without_cancel (content_with (t k))) (sym same.1));
          reads = subst (λ (n : List ℕ). Reads (entry names (contents_with c) s.rows) n back.given) (sym same.0) back.reads;
          rows = back.are_rows ∙ sym s.are_rows;
          ends_well = back.ends_well;
        })

    -- it is the same once more
    stays-written : CharactersStay → (m : List ℕ) (d : Contents) → CanBeWritten (entry names (contents_with c) (present_rows (rows_after bytes))) m d
        → entry m (contents_with d) (present_rows (rows_after (entry names (contents_with c) (present_rows (rows_after bytes)))))
        ≡ entry names (contents_with c) (present_rows (rows_after bytes))
    stays-written stay m d more =
        let back = read-back in
        let made = entry names (contents_with c) s.rows in
        let again : Reads made m d = subst (λ (b : List ℕ). Reads b m d) made-is more.reads in
        let same = one.0 made names m back.given d back.reads again in
        let rows : present_rows (rows_after (entry names (contents_with c) (present_rows (rows_after bytes)))) ≡ s.rows =
        ap (λ (b : List ℕ). present_rows (rows_after b)) made-is ∙ ap present_rows back.are_rows ∙ present-read s.rows in
        ap (entry m (contents_with d)) rows ∙ ap (λ (f : List ℕ). entry f (contents_with d) s.rows) (sym same.0)
        ∙ entries_are_of_values names (contents_with d) (contents_with c) s.rows
        (λ k valid. ap (λ (t : Contents). without_cancel (content_with (t k))) (sym same.1) ∙ ap (λ (o : Option Content). without_cancel (content_with o)) (back.tables k valid)
        ∙ stays-with stay (c k))
        ∙ sym made-is

pub are_read : EntriesAreRead → EntriesHaveOneReading → CharactersAreRead
are_read read one field bytes _ contents s (is_written names c can) = reads-written read one field bytes contents s names c can
are_read read one field bytes _ contents s (is_kept none) =
    record { given = contents; are_given = inr (refl, refl); reads = s.reads; rows = refl; ends_well = s.ends_well }

pub written_stay : EntriesAreRead → EntriesHaveOneReading → OneWithCharacters → CharactersStay → WrittenCharactersStay
written_stay read one law stay field bytes _ again contents s (is_kept none) next = law bytes again bytes next (is_kept none)
written_stay read one law stay field bytes _ _ contents s (is_written names c can) (is_kept none) = refl
written_stay read one law stay field bytes _ _ contents s (is_written names c can) (is_written m d more) =
    stays-written read one field bytes contents s names c can stay m d more

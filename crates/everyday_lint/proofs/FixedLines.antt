-- A text with lines that end in CR LF once fixes of what is read of it are made.
use Rattle.std.proofs.Common.{◌≡◌, ℕ, suc, ◌+◌, ◌-◌, ◌≤◌, ◌&&◌, nat_le, Bool, true, false, List, [], ◌∷◌, ◌++◌, append_assoc, drop, map, max, take, inl, inr}
use Rattle.std.proofs.Common.{refl, sym, ap, ap₂, subst, ◌∙◌, arith, ◌<◌, length}
use Rattle.std.specs.List.{AllByRecursion, concat, list_any}
use Rattle.std.proofs.Math.Nat.{max-eq_right}
use Rattle.std.proofs.lemmas.Bool.{and_parts, cases_Bool, false≢true, leb-true}
use Rattle.std.proofs.lemmas.List.{drop-drop}
use Rattle.tools_sources.specs.Sources.{preface_of}
use Rattle.source_places.specs.Position.{offset_of}
use Rattle.source_plain.specs.Reading.{has_mark, is_return, plain_lines, plain_source, without_mark}
use Rattle.source_plain.specs.Writing.{marked_like}
use Rattle.source_keeping.specs.Keeping.{stays_in_line}
use Rattle.source_document.specs.Diagnostics.{diagnostics_by}
use Rattle.everyday_lint.specs.Checking.{offers_in}
use Rattle.everyday_lint.specs.Fates.{fixed_source}
use Rattle.everyday_lint.specs.Fixed.{CertainFixesMendSources, TextIsFixed}
use Rattle.everyday_lint.specs.Fixing.{begins, ends, fixed_text, is_made, made}
use Rattle.everyday_lint.specs.Offers.{OfferSeen}
use Rattle.everyday_lint.specs.declared.options.LintOptions.{LintOptions}
use Rattle.everyday_lint.proofs.Changes.{Change, Rise, changed, rise_ends}
use Rattle.everyday_lint.proofs.FixedBlocks.{AreEdits, are_changes, change_by, is_of_one, made_of, of_diagnostics, ones_of, text_fixed}
use Rattle.everyday_lint.proofs.MarksStay.{IsMarked, IsWhole, has_it, mark_read, marked_before, marked_is, marked_read, printed_ascii}
use Rattle.everyday_lint.proofs.OfferedEdits.{BeginsWhole, IsEditOf}
use Rattle.everyday_lint.proofs.OtherLines.{HasNoReturn, IsLifted, lifted, place_up, plain_changed, printed_none, stays_both, stays_one, up, up_less, up_order}
use Rattle.everyday_lint.proofs.OtherLines.{up_zero}

-- where a fix of what is read of a text is in the text
record IsAlike (text : List ℕ) (fix : OfferSeen) : Type 0 where
  start : begins text fix ≡ up text (begins (plain_lines text) fix)
  end : ends text fix ≡ up text (suc (begins (plain_lines text) fix))
  one : ends (plain_lines text) fix ≡ suc (begins (plain_lines text) fix)
  none : list_any is_return fix.fix.text ≡ false

is_alike : (text : List ℕ) (fix : OfferSeen) → HasNoReturn text → IsEditOf (plain_lines text) fix.fix → IsAlike text fix
is_alike text fix none is =
    let plain = plain_lines text in
    let range = fix.fix.range in
    let first = is.start in
    let last = is.end in
    let single = is.one in
    let next : offset_of plain range.end ≡ suc (begins plain fix) = omega (arith, first, last, single) in
    let start : begins text fix ≡ up text (begins plain fix) = place_up text range.start.line range.start.column none in
    let end : offset_of text range.end ≡ up text (suc (begins plain fix)) = place_up text range.end.line range.end.column none ∙ ap (up text) next in
    let less = up_less text (begins plain fix) (suc (begins plain fix)) (omega arith) in
    let forward : up text (begins plain fix) ≤ up text (suc (begins plain fix)) = omega (arith, less) in
    record {
      start = start;
      end = ap₂ (λ (a b : ℕ). max a b) start end ∙ max-eq_right forward;
      one = (is_of_one plain fix is).end;
      none = printed_none fix.fix.text is.printed;
    }

are_alike : (text : List ℕ) (offers : List OfferSeen) → HasNoReturn text → AreEdits (plain_lines text) offers → AllByRecursion (IsAlike text) offers
are_alike text [] none all = tt
are_alike text (offer ∷ offers) none all = (is_alike text offer none all.0, are_alike text offers none all.1)

-- it is made in both or in neither
made_both : (text : List ℕ) (at : ℕ) (fix : OfferSeen) → IsAlike text fix → is_made text (up text at) fix ≡ is_made (plain_lines text) at fix
made_both text at fix alike =
    let plain = plain_lines text in
    let start = begins plain fix in
    let first : nat_le (up text at) (begins text fix) ≡ nat_le at start = ap (nat_le (up text at)) alike.start ∙ up_order text at start in
    let stays : stays_in_line text (begins text fix) (ends text fix) fix.fix.text ≡ stays_in_line plain start (ends plain fix) fix.fix.text =
    ap₂ (λ (a b : ℕ). stays_in_line text a b fix.fix.text) alike.start alike.end ∙ stays_both text start fix.fix.text
    ∙ ap (λ (n : ℕ). stays_in_line plain start n fix.fix.text) (sym alike.one) in
    ap₂ (λ (a b : Bool). a && b) first stays

-- those that are made are the same, and they are changes of both
record AreBoth (text : List ℕ) (at : ℕ) (fixes others : List OfferSeen) : Type 0 where
  same : fixes ≡ others
  is : fixed_text text (up text at) others ≡ changed (up text at) (drop (up text at) text) (map (lifted text) (map (change_by (plain_lines text)) others))
  lifts : AllByRecursion (IsLifted text) (map (change_by (plain_lines text)) others)

one_both : (text : List ℕ) (at : ℕ) (fix : OfferSeen) (fixes others : List OfferSeen) → IsAlike text fix → is_made (plain_lines text) at fix ≡ true
    → AreBoth text (suc (begins (plain_lines text) fix)) fixes others → AreBoth text at (fix ∷ fixes) (fix ∷ others)
one_both text at fix fixes others alike t later =
    let plain = plain_lines text in
    let start = begins plain fix in
    let both = and_parts (nat_le at start) (stays_in_line plain start (ends plain fix) fix.fix.text) t in
    let stays : stays_in_line plain start (suc start) fix.fix.text ≡ true =
    ap (λ (n : ℕ). stays_in_line plain start n fix.fix.text) (sym alike.one) ∙ both.1 in
    let one = stays_one text start fix.fix.text stays in
    let order : nat_le (up text at) (up text start) ≡ true = up_order text at start ∙ both.0 in
    let after : up text at ≤ up text start = leb-true (up text at) (up text start) order in
    let past : up text at + (suc (up text start) - up text at) ≡ suc (up text start) = omega (arith, after) in
    let changes = map (lifted text) (map (change_by plain) others) in
    let left = drop (up text at) text in
    let rest : drop (up text (suc start)) text ≡ drop (suc (up text start) - up text at) left =
    ap (λ (n : ℕ). drop n text) (one ∙ sym past) ∙ sym (drop-drop (suc (up text start) - up text at) (up text at) text) in
    let front : take (begins text fix - up text at) left ≡ take (up text start - up text at) left =
    ap (λ (n : ℕ). take (n - up text at) left) alike.start in
    let tail : fixed_text text (ends text fix) others ≡ changed (suc (up text start)) (drop (suc (up text start) - up text at) left) changes =
    ap (λ (n : ℕ). fixed_text text n others) alike.end ∙ later.is ∙ ap₂ (λ (n : ℕ) (l : List ℕ). changed n l changes) one rest in
    record {
      same = ap (λ (l : List OfferSeen). fix ∷ l) later.same;
      is = append_assoc (take (begins text fix - up text at) left) fix.fix.text (fixed_text text (ends text fix) others)
          ∙ ap₂ (λ (a b : List ℕ). a ++ (fix.fix.text ++ b)) front tail;
      lifts = (record { one = one; none = alike.none }, later.lifts);
    }

both_made : (text : List ℕ) (at : ℕ) (offers : List OfferSeen) → AllByRecursion (IsAlike text) offers
    → AreBoth text at (made text (up text at) offers) (made (plain_lines text) at offers)
both_made text at [] all = record { same = refl; is = refl; lifts = tt }
both_made text at (offer ∷ offers) all =
    let plain = plain_lines text in
    let alike = all.0 in
    let next = suc (begins plain offer) in
    let later = both_made text next offers all.1 in
    let ends_here = sym alike.end in
    let one_here = sym alike.one in
    elim (cases_Bool (is_made plain at offer)) [
      | inl t ↦
          let here = made_both text at offer alike ∙ t in
          rw (here, t)
          (one_both text at offer (made text (ends text offer) offers) (made plain (ends plain offer) offers) alike t
          (subst (λ (n : ℕ). AreBoth text next (made text n offers) (made plain (ends plain offer) offers)) ends_here
          (subst (λ (n : ℕ). AreBoth text next (made text (up text next) offers) (made plain n offers)) one_here later)))
      | inr f ↦
          let here = made_both text at offer alike ∙ f in
          rw (here, f) (both_made text at offers all.1)
    ]

-- what is read of the text then is what is read of it before, with the same fixes made
record AreRead (text : List ℕ) (offers : List OfferSeen) : Type 0 where
  same : made text 0 offers ≡ made (plain_lines text) 0 offers
  is : plain_lines (fixed_text text 0 (made text 0 offers)) ≡ fixed_text (plain_lines text) 0 (made (plain_lines text) 0 offers)

are_read : (text : List ℕ) (offers : List OfferSeen) → HasNoReturn text → AreEdits (plain_lines text) offers → AreRead text offers
are_read text offers none all =
    let plain = plain_lines text in
    let fixes = made plain 0 offers in
    let zero_is = up_zero text in
    let both = both_made text 0 offers (are_alike text offers none all) in
    let are = are_changes plain 0 offers (omega arith) (ones_of plain offers all) in
    let changes = map (change_by plain) fixes in
    let same : made text 0 offers ≡ fixes = ap (λ (n : ℕ). made text n offers) (sym zero_is) ∙ both.same in
    record {
      same = same;
      is = ap (λ (l : List OfferSeen). plain_lines (fixed_text text 0 l)) same
          ∙ ap (λ (n : ℕ). plain_lines (fixed_text text n fixes)) (sym zero_is)
          ∙ ap plain_lines both.is
          ∙ plain_changed text 0 changes are.rise none both.lifts
          ∙ sym are.is;
    }

-- what is read of the text then is the text with its blocks mended
read_fixed : (text : List ℕ) (offers : List OfferSeen) → HasNoReturn text → AreEdits (plain_lines text) offers
    → TextIsFixed (plain_lines text) offers (made text 0 offers) (plain_lines (fixed_text text 0 (made text 0 offers)))
read_fixed text offers none edits =
    let plain = plain_lines text in
    let read = are_read text offers none edits in
    let now : TextIsFixed plain offers (made plain 0 offers) (plain_lines (fixed_text text 0 (made text 0 offers))) =
    subst (TextIsFixed plain offers (made plain 0 offers)) (sym read.is) (text_fixed plain offers edits) in
    subst (λ (fixes : List OfferSeen). TextIsFixed plain offers fixes (plain_lines (fixed_text text 0 (made text 0 offers)))) (sym read.same) now

-- ---- the mark

whole_changes : (text : List ℕ) (offers : List OfferSeen) → AreEdits text offers → AllByRecursion (IsWhole text) (map (change_by text) offers)
whole_changes text [] all = tt
whole_changes text (offer ∷ offers) all =
    let is = all.0 in
    let start = is.start in
    let one = is.one in
    let place : length (preface_of text ++ concat is.front) + is.edit.part.end ≡ suc (begins text offer) = omega (arith, start, one) in (
      record {
        ascii = printed_ascii offer.fix.text is.printed;
        next = subst (λ (n : ℕ). BeginsWhole (drop n text)) place is.next;
      },
      whole_changes text offers all.1,
    )

later_changes : (text : List ℕ) (fixes : List OfferSeen) → AreEdits text fixes → Rise 0 (length text) (map (change_by text) fixes) → 0 < length text
    → Rise 1 (length text) (map (change_by text) fixes)
later_changes text [] all rise some = some
later_changes text (fix ∷ fixes) all rise some =
    let is = all.0 in
    let start = is.start in
    let later = is.later in
    (omega (arith, start, later), rise.1)

-- with no mark before there is none then
no_mark : (text : List ℕ) (offers : List OfferSeen) → HasNoReturn text → AreEdits (plain_lines text) offers → has_mark text ≡ false
    → has_mark (fixed_text text 0 (made text 0 offers)) ≡ false
no_mark text offers none edits bare =
    let plain = plain_lines text in
    let read = are_read text offers none edits in
    let fixes = made plain 0 offers in
    let are = are_changes plain 0 offers (omega arith) (ones_of plain offers edits) in
    let mine = made_of (λ (offer : OfferSeen). IsEditOf plain offer.fix) plain 0 offers edits in
    let changes = map (change_by plain) fixes in
    let after = fixed_text text 0 (made text 0 offers) in
    elim (cases_Bool (has_mark after)) [
      | inr f ↦ f
      | inl t ↦
          let marked = marked_is after t in
          let now : changed 0 plain changes ≡ 239 ∷ 187 ∷ 191 ∷ plain_lines marked.rest =
          sym are.is ∙ sym read.is ∙ ap plain_lines marked.whole ∙ mark_read marked.rest in
          let was = by_size plain changes (plain_lines marked.rest) are.rise (λ some. later_changes plain fixes mine are.rise some)
          (whole_changes plain fixes mine) now in
          let text_marked = marked_read text was.rest was.whole in
          absurd (false≢true (sym bare ∙ has_it text text_marked))
    ]
  where
    by_size : (t : List ℕ) (cs : List Change) (rest : List ℕ) → Rise 0 (length t) cs → (0 < length t → Rise 1 (length t) cs)
        → AllByRecursion (IsWhole t) cs → changed 0 t cs ≡ 239 ∷ 187 ∷ 191 ∷ rest → IsMarked t
    by_size [] [] rest rise later whole e = absurd cc
    by_size [] (c ∷ cs) rest rise later whole e = let end = rise_ends (suc c.at) 0 cs rise.1 in absurd (omega (arith, end))
    by_size (x ∷ xs) cs rest rise later whole e = marked_before (x ∷ xs) cs rest (later (omega arith)) whole e

-- what is read of a source that was fixed
fixed_read : (source : List ℕ) (offers : List OfferSeen) → HasNoReturn (without_mark source) → AreEdits (plain_source source) offers
    → plain_source (fixed_source source (made (without_mark source) 0 offers))
    ≡ plain_lines (fixed_text (without_mark source) 0 (made (without_mark source) 0 offers))
fixed_read source offers none edits =
    elim (cases_Bool (has_mark source)) [
      | inl t ↦ by_mark source (fixed_text (without_mark source) 0 (made (without_mark source) 0 offers)) t
      | inr f ↦
          let same : without_mark source ≡ source = rw f refl in
          let bare : has_mark (without_mark source) ≡ false = ap has_mark same ∙ f in
          by_none source (fixed_text (without_mark source) 0 (made (without_mark source) 0 offers)) f (no_mark (without_mark source) offers none edits bare)
    ]
  where
    by_mark : (from text : List ℕ) → has_mark from ≡ true → plain_source (marked_like from text) ≡ plain_lines text
    by_mark from text t = rw t refl

    by_none : (from text : List ℕ) → has_mark from ≡ false → has_mark text ≡ false → plain_source (marked_like from text) ≡ plain_lines text
    by_none from text f none_there = rw f (rw none_there refl)

offers_there : (options : LintOptions) (text : List ℕ) → AreEdits text (offers_in options text)
offers_there options text =
    elim (cases_Bool options.fix) [
      | inl t ↦ rw t (of_diagnostics options.capabilities text (diagnostics_by options.capabilities text))
      | inr f ↦ rw f tt
    ]

pub mend_sources : CertainFixesMendSources
mend_sources options source none =
    let text = without_mark source in
    let offers = offers_in options (plain_source source) in
    let edits = offers_there options (plain_source source) in
    subst (TextIsFixed (plain_source source) offers (made text 0 offers)) (sym (fixed_read source offers none edits)) (read_fixed text offers none edits)

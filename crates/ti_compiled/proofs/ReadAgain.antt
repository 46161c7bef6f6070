-- An image of names and contents is read as them, so bytes that are such an image have what every
-- image has.
use Rattle.std.proofs.Common.{◌≡◌, ◌≢◌, ℕ, ◌<◌, ◌≤◌, [], ◌∷◌, true, false, cond, List, length, Option, Some, None, refl, sym, ap, ◌∙◌, subst, arith}
use Rattle.std.specs.Prelude.{◌↔◌, option_and_then, IsErrOf, OnOk, OnErr}
use Rattle.std.proofs.Common.{Result, Ok, Err}
use Rattle.ti_layout.specs.declared.writing.WriteError.{WriteError}
use Rattle.std.proofs.lemmas.List.{get_or_past}
use Rattle.std.proofs.lemmas.Option.{slice_get_past}
use Rattle.ti_caps.specs.Tables.{Capability, IsCapability, capability, count_of, same_capability}
use Rattle.ti_caps.proofs.Same.{same_capability-true}
use Rattle.ti_caps.specs.declared.capability.Kind.{Kind}
use Rattle.ti_caps.specs.declared.capability.Kind.TheVariants.{Flag, Number, Text}
use Rattle.ti_layout.specs.declared.layout.Format.{Format}
use Rattle.ti_layout.specs.Image.{image, image_limit, ImageFits, ImageIsTooLarge}
use Rattle.ti_layout.specs.Laws.{without_cancel}
use Rattle.ti_layout.specs.Reading.{Reads, says, stored_flag, stored_number, stored_text}
use Rattle.ti_layout.specs.Values.{Content, content_true, content_number, content_text, content_cancelled, Contents, AgreesIfSome, HasNoNul}
use Rattle.ti_layout.proofs.OneReading.{read_names, read_contents}
use Rattle.ti_layout.proofs.ImageReading.{images_are_read}
use Rattle.ti_layout.proofs.OfValues.{images_are_of_values, limits_are_of_values}
use Rattle.ti_layout.specs.declared.writing.WriteError.TheVariants.{NamesTooLong, TooLarge, Memory}
use Rattle.ti_compiled.specs.Changes.{HoldsGiven, SetsContent}
use Rattle.ti_compiled.specs.inside.Changes.{BytesFitWith, BytesAreOverWith, image_with}
use Rattle.ti_compiled.specs.Image.{NamedTable, bytes_of, held_by, with_content}
use Rattle.ti_compiled.specs.inside.Image.{names_in, contents_in, seen, IsImage}
use Rattle.ti_compiled.proofs.Carried.{same_cap}
use Rattle.ti_compiled.proofs.Seen.{seen_says}

uncancelled-twice : (o : Option Content) → without_cancel (without_cancel o) ≡ without_cancel o
uncancelled-twice None = refl
uncancelled-twice (Some content_true) = refl
uncancelled-twice (Some (content_number n)) = refl
uncancelled-twice (Some (content_text t)) = refl
uncancelled-twice (Some content_cancelled) = refl

uncancelled-agrees : (c : Capability) (o : Option Content) → AgreesIfSome c o → AgreesIfSome c (without_cancel o)
uncancelled-agrees c None a = a
uncancelled-agrees c (Some content_true) a = a
uncancelled-agrees c (Some (content_number n)) a = a
uncancelled-agrees c (Some (content_text t)) a = a
uncancelled-agrees c (Some content_cancelled) a = tt

-- the sections say nothing of what is no capability
says_past : (w : Format) (flags numbers offsets strings : List ℕ) → length flags ≤ 44 → length numbers ≤ 39 → length offsets ≤ 414
    → (kind : Kind) (index : ℕ) → count_of kind ≤ index → says w flags numbers offsets strings kind index ≡ None
says_past w flags numbers offsets strings f n o Flag index past = ap stored_flag (get_or_past flags index 0 (omega arith))
says_past w flags numbers offsets strings f n o Number index past = ap (option_and_then (stored_number w)) (slice_get_past numbers index (omega arith))
says_past w flags numbers offsets strings f n o Text index past = ap (option_and_then (stored_text strings)) (slice_get_past offsets index (omega arith))

-- what the bytes of an image hold
pub record Again (bytes names : List ℕ) (contents : Contents) : Type 0 where
  pub names_read : names_in bytes ≡ names
  pub contents_read : (c : Capability) → IsCapability c → contents_in bytes c ≡ without_cancel (contents c)
  pub is_image : IsImage bytes

pub read_again : (bytes names : List ℕ) (contents : Contents) → 0 < length names → length names ≤ 127 → HasNoNul names
    → ((c : Capability) → IsCapability c → AgreesIfSome c (contents c)) → length bytes ≤ image_limit contents → bytes ≡ image names contents
    → Again bytes names contents
read_again bytes names contents some short no_nul agree within whole =
    let r = images_are_read names contents some short no_nul agree (subst (λ (b : List ℕ). length b ≤ image_limit contents) whole within) in
    let reads = subst (λ b. Reads b names r.0) (sym whole) r.1 in
    let n = read_names bytes names r.0 reads in
    let d = read_contents bytes names r.0 reads in
    let said : (c : Capability) → IsCapability c → contents_in bytes c ≡ without_cancel (contents c) =
    λ c valid. ap (λ (f : Contents). f c) (sym d) ∙ r.2 c valid in
    let same : (c : Capability) → IsCapability c → without_cancel (contents c) ≡ without_cancel (contents_in bytes c) =
    λ c valid. sym (ap without_cancel (said c valid) ∙ uncancelled-twice (contents c)) in
    let again : image names contents ≡ image (names_in bytes) (contents_in bytes) =
    ap (λ m. image m contents) n ∙ images_are_of_values (names_in bytes) contents (contents_in bytes) same in
    let limits = limits_are_of_values contents (contents_in bytes) same in
    record {
      names_read = sym n;
      contents_read = said;
      is_image = record {
        imaged = record {
          some = subst (λ (m : List ℕ). 0 < length m) n some;
          short = subst (λ (m : List ℕ). length m ≤ 127) n short;
          no_nul = subst HasNoNul n no_nul;
          agree = λ c valid. subst (AgreesIfSome c) (sym (said c valid)) (uncancelled-agrees c (contents c) (agree c valid));
          present = λ c valid. ap without_cancel (said c valid) ∙ uncancelled-twice (contents c) ∙ sym (said c valid);
          past = λ kind index past.
              ap (λ (f : Contents). f (capability kind index)) (sym d ∙ reads.held)
              ∙ says_past reads.format reads.sections.flags reads.sections.numbers reads.sections.offsets reads.sections.strings reads.sound.flag_count
              reads.sound.number_count reads.sound.text_count kind index past;
          within = subst (λ (b : List ℕ). length b ≤ image_limit (contents_in bytes)) (whole ∙ again) (subst (λ n. length bytes ≤ n) limits within);
        };
        whole = whole ∙ again;
      };
    }

pub some_bytes : (xs : List ℕ) → xs ≢ [] → 0 < length xs
some_bytes [] none = absurd (none refl)
some_bytes (x ∷ xs) none = omega arith

pub given_agrees : (d : Contents) (k : Capability) (v : Option Content) → AgreesIfSome k v → (x : Capability) → AgreesIfSome x (d x)
    → AgreesIfSome x (with_content d k v x)
given_agrees d k v agrees x old = elim (same_capability k x) as (λ b. same_capability k x ≡ b → AgreesIfSome x (cond b v (d x))) [
  | true ↦ λ e. subst (λ y. AgreesIfSome y v) (same_capability-true k x e) agrees
  | false ↦ λ e. old
] refl

-- what is given leaves an image
pub given_again : (b bytes : List ℕ) → IsImage b → (k : Capability) (v : Option Content) → AgreesIfSome k v
    → length (image (names_in b) (with_content (contents_in b) k v)) ≤ image_limit (with_content (contents_in b) k v)
    → bytes ≡ image (names_in b) (with_content (contents_in b) k v) → Again bytes (names_in b) (with_content (contents_in b) k v)
given_again b bytes is k v agrees within whole =
    let d = contents_in b in
    read_again bytes (names_in b) (with_content d k v) is.imaged.some is.imaged.short is.imaged.no_nul
    (λ x valid. given_agrees d k v agrees x (is.imaged.agree x valid))
    (subst (λ (y : List ℕ). length y ≤ image_limit (with_content d k v)) (sym whole) within) whole

image_after : (r : Result (Unit {0}) WriteError) (b new : List ℕ) → IsImage b → (k : Capability) (v : Option Content) → AgreesIfSome k v
    → OnOk r (new ≡ image (names_in b) (with_content (contents_in b) k v))
    → OnOk r (length (image (names_in b) (with_content (contents_in b) k v)) ≤ image_limit (with_content (contents_in b) k v)) → OnErr r (new ≡ b) → IsImage new
image_after (Ok x) b new is k v agrees made within same = (given_again b new is k v agrees within made).is_image
image_after (Err x) b new is k v agrees made within same = subst IsImage (sym same) is

given_present : (d : Contents) (k : Capability) (v : Option Content) → without_cancel v ≡ v → (x : Capability) → without_cancel (d x) ≡ d x
    → without_cancel (with_content d k v x) ≡ with_content d k v x
given_present d k v present x old = elim (same_capability k x) as (λ b. without_cancel (cond b v (d x)) ≡ cond b v (d x)) [ true ↦ present | false ↦ old ]

given_names : (r : Result (Unit {0}) WriteError) (b new : List ℕ) → IsImage b → (k : Capability) (v : Option Content) → AgreesIfSome k v
    → OnOk r (new ≡ image (names_in b) (with_content (contents_in b) k v))
    → OnOk r (length (image (names_in b) (with_content (contents_in b) k v)) ≤ image_limit (with_content (contents_in b) k v))
    → OnOk r (names_in new ≡ names_in b)
given_names (Ok x) b new is k v agrees made within = (given_again b new is k v agrees within made).names_read
given_names (Err x) b new is k v agrees made within = tt

given_contents : (r : Result (Unit {0}) WriteError) (b new : List ℕ) → IsImage b → (k : Capability) (v : Option Content) → AgreesIfSome k v
    → without_cancel v ≡ v → OnOk r (new ≡ image (names_in b) (with_content (contents_in b) k v))
    → OnOk r (length (image (names_in b) (with_content (contents_in b) k v)) ≤ image_limit (with_content (contents_in b) k v))
    → OnOk r (HoldsGiven (seen b) (seen new) k v)
given_contents (Ok x) b new is k v agrees present made within = record {
  says = λ c valid.
      let again = given_again b new is k v agrees within made in
      ap (λ (f : Contents). f c) (seen_says new again.is_image) ∙ again.contents_read c valid
      ∙ given_present (contents_in b) k v present c (is.imaged.present c valid)
      ∙ ap (λ (f : Contents). with_content f k v c) (sym (seen_says b is));
}
given_contents (Err x) b new is k v agrees present made within = tt

seen_left : (r : Result (Unit {0}) WriteError) (b new : List ℕ) → OnErr r (new ≡ b) → OnErr r (seen new ≡ seen b)
seen_left (Ok x) b new left = tt
seen_left (Err x) b new left = ap seen left

-- what holds if a value was given by its kind and place, or was refused
pub record AfterGiving (r : Result (Unit {0}) WriteError) (old : NamedTable) (new : List ℕ) (k : Capability) (v : Option Content) : Type 0 where
  pub is_image : IsImage new
  pub sets : SetsContent old (seen new) k v r

given_at : (r : Result (Unit {0}) WriteError) (b new : List ℕ) (k : Capability) (v : Option Content)
    → IsImage b → AgreesIfSome k v → without_cancel v ≡ v → OnOk r (new ≡ image_with b k v)
    → OnOk r (BytesFitWith b k v) → (IsErrOf r TooLarge ↔ BytesAreOverWith b k v)
    → (IsErrOf r Memory → BytesFitWith b k v) → (IsErrOf r NamesTooLong → ⊥) → OnErr r (new ≡ b)
    → AfterGiving r (seen b) new k v
given_at r b new k v is agrees present made within over wanting fit left =
    let shown = sym (seen_says b is) in
    let n = names_in b in
    record {
      is_image = image_after r b new is k v agrees made within left;
      sets = record {
        names = given_names r b new is k v agrees made within;
        contents = given_contents r b new is k v agrees present made within;
        within = subst (λ (f : Contents). OnOk r (ImageFits n (with_content f k v))) shown within;
        too_large = subst (λ (f : Contents). IsErrOf r TooLarge ↔ ImageIsTooLarge n (with_content f k v)) shown over;
        memory = subst (λ (f : Contents). IsErrOf r Memory → ImageFits n (with_content f k v)) shown wanting;
        names_fit = fit;
        err = seen_left r b new left;
      };
    }

pub after_giving : (r : Result (Unit {0}) WriteError) (x : List ℕ) (b : NamedTable) (new : List ℕ) (k : Capability) (kind : Kind) (i : ℕ)
    (v : Option Content) → seen x ≡ b → k.kind ≡ kind → i ≡ k.index
    → IsImage x → AgreesIfSome (capability kind i) v → without_cancel v ≡ v → OnOk r (new ≡ image_with x (capability kind i) v)
    → OnOk r (BytesFitWith x (capability kind i) v) → (IsErrOf r TooLarge ↔ BytesAreOverWith x (capability kind i) v)
    → (IsErrOf r Memory → BytesFitWith x (capability kind i) v) → (IsErrOf r NamesTooLong → ⊥) → OnErr r (new ≡ x)
    → AfterGiving r b new k v
after_giving r x b new k kind i v same e f is agrees present made within over wanting fit left =
    subst (λ (y : NamedTable). AfterGiving r y new k v) same
    (subst (λ (d : Capability). AfterGiving r (seen x) new d v) (same_cap k kind i e f)
    (given_at r x new (capability kind i) v is agrees present made within over wanting fit left))

-- an image of the same names and values is the image of any contents that say them
pub record IsWrittenAs (i : NamedTable) (names : List ℕ) (t : Contents) : Type 0 where
  pub whole : bytes_of i ≡ image names t
  pub within : ImageFits names t

pub written_as : (i : NamedTable) (names : List ℕ) (t : Contents) → ImageFits i.names (held_by i) → i.names ≡ names
    → ((c : Capability) → IsCapability c → held_by i c ≡ without_cancel (t c)) → IsWrittenAs i names t
written_as i names t within named said =
    let same : (c : Capability) → IsCapability c → without_cancel (held_by i c) ≡ without_cancel (t c) =
    λ c valid. ap without_cancel (said c valid) ∙ uncancelled-twice (t c) in
    let again : image i.names (held_by i) ≡ image names t = images_are_of_values i.names (held_by i) t same ∙ ap (λ n. image n t) named in
    let limits = limits_are_of_values (held_by i) t same in
    record {
      whole = again;
      within = subst (λ n. length (image names t) ≤ n) limits (subst (λ (b : List ℕ). length b ≤ image_limit (held_by i)) again within);
    }

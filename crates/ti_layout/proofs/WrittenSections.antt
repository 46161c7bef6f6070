-- What the writer has written of a section when its walk has passed some of the entries, and what
-- one more entry adds.
use Rattle.std.proofs.Common.{◌≡◌, ℕ, ◌+◌, ◌-◌, ◌*◌, ◌<◌, ◌≤◌, true, false, List, [], ◌∷◌, ◌++◌, length, get_or, replicate, refl, sym, ap, ◌∙◌, subst}
use Rattle.std.proofs.Common.{arith, append-nil, append_assoc, length-append}
use Rattle.std.proofs.lemmas.List.{length-map}
use Rattle.ti_caps.specs.Tables.{Capability}
use Rattle.ti_caps.specs.declared.capability.Kind.{Kind}
use Rattle.ti_caps.specs.declared.capability.Kind.TheVariants.{Flag, Number, Text}
use Rattle.std.specs.declared.rc.RcSlice.{RcSlice}
use Rattle.std.proofs.Common.{Global}
use Rattle.ti_layout.specs.declared.layout.Format.{Format}
use Rattle.ti_layout.specs.declared.layout.Format.TheVariants.{Legacy}
use Rattle.ti_layout.specs.declared.values.Value.{Value}
use Rattle.ti_layout.specs.declared.values.Value.TheVariants.{True, Cancelled}
use Rattle.ti_layout.specs.declared.values.Value.TheVariants as v
use Rattle.ti_layout.specs.Values.{content_text, Mention, IsSorted, contents, content_of, entries_of}
use Rattle.ti_layout.specs.Layout.{number_bytes, number_section, width}
use Rattle.ti_layout.specs.Image.{written_count, flags_below, numbers_below, offsets_below, texts_below}
use Rattle.ti_layout.proofs.Below.{below-none}
use Rattle.ti_layout.proofs.Spelled.{spelled-none}
use Rattle.ti_layout.proofs.Texts.{texts-none}
use Rattle.ti_layout.proofs.Walked.{Walked, is_of, walked-start, walked-there, walked-past, walked-end, places_behind, next_flag, next_number, next_offset}
use Rattle.ti_layout.proofs.Walked.{next_text, text_fits, item_read, grown}

-- ---- what is written so far

pub record HasFlags (es : List Mention) (start image : List ℕ) (k places : ℕ) : Type 0 where
  pub walked : Walked es Flag k places
  pub so_far : image ≡ start ++ flags_below (contents es) places

pub record HasNumbers (w : Format) (es : List Mention) (start image : List ℕ) (k places : ℕ) : Type 0 where
  pub walked : Walked es Number k places
  pub so_far : image ≡ start ++ number_section w (numbers_below w (contents es) places)

pub record HasOffsets (es : List Mention) (start image : List ℕ) (k places offset : ℕ) : Type 0 where
  pub walked : Walked es Text k places
  pub length_before : offset ≡ length (texts_below (contents es) places)
  pub so_far : image ≡ start ++ number_section Legacy (offsets_below (contents es) places)

pub record HasTexts (es : List Mention) (start image : List ℕ) (k : ℕ) : Type 0 where
  pub places : ℕ
  pub walked : Walked es Text k places
  pub so_far : image ≡ start ++ texts_below (contents es) places

-- ---- at the start, nothing

begun : (start none : List ℕ) → none ≡ [] → start ≡ start ++ none
begun start none e = sym (ap (λ t. start ++ t) e ∙ append-nil start)

pub flags_begun : (es : List Mention) (start : List ℕ) → HasFlags es start start 0 0
flags_begun es start = record { walked = walked-start es Flag; so_far = begun start _ (below-none _) }

pub numbers_begun : (w : Format) (es : List Mention) (start : List ℕ) → HasNumbers w es start start 0 0
numbers_begun w es start = record { walked = walked-start es Number; so_far = begun start _ (ap (number_section w) (below-none _) ∙ spelled-none w) }

pub offsets_begun : (es : List Mention) (start : List ℕ) → HasOffsets es start start 0 0 0
offsets_begun es start = record {
  walked = walked-start es Text;
  length_before = sym (ap (λ (t : List ℕ). length t) (texts-none (contents es)));
  so_far = begun start _ (ap (number_section Legacy) (below-none _) ∙ spelled-none Legacy);
}

pub texts_begun : (es : List Mention) (start : List ℕ) → HasTexts es start start 0
texts_begun es start = record { places = 0; walked = walked-start es Text; so_far = begun start _ (texts-none (contents es)) }

-- ---- at the end, all that is written

module _ (es : List Mention) (sorted : IsSorted es) (start image : List ℕ) (k : ℕ) (all : length es ≤ k) where
  pub flags_done : (places : ℕ) → HasFlags es start image k places → image ≡ start ++ flags_below (contents es) (written_count (contents es) Flag)
  flags_done places has = has.so_far ∙ ap (λ n. start ++ flags_below (contents es) n) (sym (walked-end es sorted Flag k places all has.walked))

  pub numbers_done : (w : Format) (places : ℕ) → HasNumbers w es start image k places → image ≡ start
      ++ number_section w (numbers_below w (contents es) (written_count (contents es) Number))
  numbers_done w places has =
      has.so_far ∙ ap (λ n. start ++ number_section w (numbers_below w (contents es) n)) (sym (walked-end es sorted Number k places all has.walked))

  pub offsets_done : (places offset : ℕ) → HasOffsets es start image k places offset → image ≡ start
      ++ number_section Legacy (offsets_below (contents es) (written_count (contents es) Text))
  offsets_done places offset has =
      has.so_far ∙ ap (λ n. start ++ number_section Legacy (offsets_below (contents es) n)) (sym (walked-end es sorted Text k places all has.walked))

  pub texts_done : HasTexts es start image k → image ≡ start ++ texts_below (contents es) (written_count (contents es) Text)
  texts_done has = has.so_far ∙ ap (λ n. start ++ texts_below (contents es) n) (sym (walked-end es sorted Text k has.places all has.walked))

-- a walk past everything that it was made of
pub all_past : (xs : List (Capability × Value)) (k : ℕ) → length xs ≤ k → length (entries_of xs) ≤ k
all_past xs k le = rw length-map le

-- ---- which kind a value is of

pub no_flag : (value : Value) → (value ≡ True → ⊥) → is_of Flag (content_of value) ≡ false
no_flag True other = absurd (other refl)
no_flag (v.Number n) other = refl
no_flag (v.Text t) other = refl
no_flag Cancelled other = refl

pub no_number : (value : Value) → ((n : ℕ) → value ≡ v.Number n → ⊥) → is_of Number (content_of value) ≡ false
no_number True other = refl
no_number (v.Number n) other = absurd (other n refl)
no_number (v.Text t) other = refl
no_number Cancelled other = refl

pub no_text : (value : Value) → ((t : RcSlice ℕ Global) → value ≡ v.Text t → ⊥) → is_of Text (content_of value) ≡ false
no_text True other = refl
no_text (v.Number n) other = refl
no_text (v.Text t) other = absurd (other t refl)
no_text Cancelled other = refl

text_length : (before t : List ℕ) → length (before ++ (t ++ 0 ∷ [])) ≡ length before + (length t + 1)
text_length before t = omega (arith, length-append before (t ++ 0 ∷ []), length-append t (0 ∷ []))

text_grown : (start done t v0 v1 v2 : List ℕ) → v0 ≡ start ++ done → v1 ≡ v0 ++ t → v2 ≡ v1 ++ 0 ∷ [] → v2 ≡ start ++ (done ++ (t ++ 0 ∷ []))
text_grown start done t v0 v1 v2 a b c =
    c ∙ ap (λ u. u ++ 0 ∷ []) (b ∙ ap (λ u. u ++ t) a) ∙ append_assoc (start ++ done) t (0 ∷ []) ∙ append_assoc start done (t ++ 0 ∷ [])

-- ---- one more entry

module _ (xs : List (Capability × Value)) (sorted : IsSorted (entries_of xs)) (k places : ℕ) (x : Capability × Value) (within : k < length xs)
    (item : x ≡ get_or xs k x) where
  here : Mention
  here = (x.0, content_of x.1)

  read : get_or (entries_of xs) k (x.0, content_of x.1) ≡ (x.0, content_of x.1)
  read = item_read xs k x within item

  in_range : k < length (entries_of xs)
  in_range = rw length-map within

  pub passed : (kind : Kind) (next : ℕ) → Walked (entries_of xs) kind k places → is_of kind (content_of x.1) ≡ false → next ≡ places
      → Walked (entries_of xs) kind (k + 1) next
  passed kind next walked other e =
      subst (Walked (entries_of xs) kind (k + 1)) (sym e) (walked-past (entries_of xs) sorted kind k places walked in_range (x.0, content_of x.1) read other)

  pub behind : (kind : Kind) (index : ℕ) → Walked (entries_of xs) kind k places → is_of kind (content_of x.1) ≡ true → index ≡ x.0.index → places ≤ index
  behind kind index walked is e = let b = places_behind (entries_of xs) sorted kind k places walked in_range (x.0, content_of x.1) read is in omega arith

  pub stepped : (kind : Kind) (next index : ℕ) → Walked (entries_of xs) kind k places → is_of kind (content_of x.1) ≡ true → next ≡ index + 1
      → index ≡ x.0.index → Walked (entries_of xs) kind (k + 1) next
  stepped kind next index walked is e i =
      subst (Walked (entries_of xs) kind (k + 1)) {x = x.0.index + 1} (omega arith)
      (walked-there (entries_of xs) sorted kind k places walked in_range (x.0, content_of x.1) read is)

  module _ (start v0 v1 v2 : List ℕ) (first next index : ℕ) (i1 : first ≡ x.0.index) (i2 : index ≡ x.0.index) (n : next ≡ index + 1) where
    pub flag_put : x.1 ≡ True → HasFlags (entries_of xs) start v0 k places → v1 ≡ v0 ++ replicate (first - places) 0 → v2 ≡ v1 ++ 1 ∷ []
        → HasFlags (entries_of xs) start v2 (k + 1) next
    flag_put value has fill push =
        let c = ap content_of value in
        let e : next ≡ x.0.index + 1 = omega arith in
        record {
          walked = stepped Flag next index has.walked (ap (is_of Flag) c) n i2;
          so_far = grown start _ v0 v1 v2 _ _ _ has.so_far (fill ∙ ap (λ j. v0 ++ replicate (j - places) 0) i1) push
              (ap (flags_below (contents (entries_of xs))) e ∙ next_flag (entries_of xs) sorted k places in_range (x.0, content_of x.1) read has.walked c);
        }

    pub number_put : (w : Format) (size m : ℕ) → x.1 ≡ v.Number m → HasNumbers w (entries_of xs) start v0 k places → size ≡ width w
        → v1 ≡ v0 ++ replicate (size * (first - places)) 255 → v2 ≡ v1 ++ number_bytes w m
        → HasNumbers w (entries_of xs) start v2 (k + 1) next
    number_put w size m value has wide fill push =
        let c = ap content_of value in
        let e : next ≡ x.0.index + 1 = omega arith in
        record {
          walked = stepped Number next index has.walked (ap (is_of Number) c) n i2;
          so_far = grown start _ v0 v1 v2 _ _ _ has.so_far (fill ∙ ap (λ j. v0 ++ replicate (size * (j - places)) 255) i1
              ∙ ap (λ j. v0 ++ replicate (j * (x.0.index - places)) 255) wide) push
              (ap (λ j. number_section w (numbers_below w (contents (entries_of xs)) j)) e
              ∙ next_number (entries_of xs) sorted k places in_range (x.0, content_of x.1) read w m has.walked c);
        }

    pub offset_put : (t : List ℕ) (offset more : ℕ) → content_of x.1 ≡ content_text t → HasOffsets (entries_of xs) start v0 k places offset
        → v1 ≡ v0 ++ replicate (2 * (first - places)) 255 → v2 ≡ v1 ++ number_bytes Legacy offset
        → more ≡ offset + (length t + 1) → HasOffsets (entries_of xs) start v2 (k + 1) next more
    offset_put t offset more c has fill push sum =
        let e : next ≡ x.0.index + 1 = omega arith in
        let text = next_text (entries_of xs) sorted k places in_range (x.0, content_of x.1) read t has.walked c in
        let size = text_length (texts_below (contents (entries_of xs)) places) t in
        let before = has.length_before in
        let long : length (texts_below (contents (entries_of xs)) next) ≡ length (texts_below (contents (entries_of xs)) places ++ (t ++ 0 ∷ [])) =
        ap (λ j. length (texts_below (contents (entries_of xs)) j)) e ∙ ap (λ (u : List ℕ). length u) text in
        record {
          walked = stepped Text next index has.walked (ap (is_of Text) c) n i2;
          length_before = omega arith;
          so_far = grown start _ v0 v1 v2 _ _ _ has.so_far (fill ∙ ap (λ j. v0 ++ replicate (2 * (j - places)) 255) i1)
              (push ∙ ap (λ j. v1 ++ number_bytes Legacy j) before)
              (ap (λ j. number_section Legacy (offsets_below (contents (entries_of xs)) j)) e
              ∙ next_offset (entries_of xs) sorted k places in_range (x.0, content_of x.1) read t has.walked c);
        }

  pub text_within : (t : List ℕ) (offset : ℕ) → content_of x.1 ≡ content_text t → Walked (entries_of xs) Text k places
      → offset ≡ length (texts_below (contents (entries_of xs)) places)
      → offset + (length t + 1) ≤ length (texts_below (contents (entries_of xs)) (written_count (contents (entries_of xs)) Text))
  text_within t offset c walked e = let fits = text_fits (entries_of xs) sorted k places in_range (x.0, content_of x.1) read t walked c in omega arith

  pub text_put : (start v0 v1 v2 t : List ℕ) → content_of x.1 ≡ content_text t → Walked (entries_of xs) Text k places
      → v0 ≡ start ++ texts_below (contents (entries_of xs)) places → v1 ≡ v0 ++ t → v2 ≡ v1 ++ 0 ∷ [] → HasTexts (entries_of xs) start v2 (k + 1)
  text_put start v0 v1 v2 t c walked so_far push nul = record {
    places = x.0.index + 1;
    walked = stepped Text (x.0.index + 1) x.0.index walked (ap (is_of Text) c) refl refl;
    so_far = text_grown start _ t v0 v1 v2 so_far push nul
        ∙ ap (λ u. start ++ u) (sym (next_text (entries_of xs) sorted k places in_range (x.0, content_of x.1) read t walked c));
  }

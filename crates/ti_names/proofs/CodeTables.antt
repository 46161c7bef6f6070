-- The lists of codes, and their indexes.
use Rattle.std.proofs.Common.{◌≡◌, ◌≢◌, ℕ, ◌+◌, ◌-◌, ◌<◌, true, nat_lt, inl, inr, List, map, length, refl, subst, arith, ltb-true}
use Rattle.std.specs.List.{list_all, Contains}
use Rattle.std.proofs.lemmas.Bool.{cases_lt}
use Rattle.std.proofs.lemmas.List.Sums.{AllPass-from_list_all}
use Rattle.ti_caps.specs.declared.capability.Kind.{Kind}
use Rattle.ti_caps.specs.declared.capability.Kind.TheVariants.{Flag, Number, Text}
use Rattle.ti_caps.specs.Tables.{count_of}
use Rattle.ti_names.specs.declared.code_tables.TheConstants.{FLAG_KEYS, FLAG_PLACES, FLAG_CODES, NUMBER_KEYS, NUMBER_PLACES, NUMBER_CODES}
use Rattle.ti_names.specs.declared.code_tables.TheConstants.{TEXT_KEYS, TEXT_PLACES, TEXT_CODES}
use Rattle.ti_names.specs.Names.{termcap_codes}
use Rattle.ti_names.specs.Codes.{flag_codes, number_codes, text_codes}
use Rattle.ti_names.specs.inside.Index.{IsIndex, IsIndexed, climbs, key_of, word_at}
use Rattle.ti_names.proofs.Cover.{covers, contains_from_covers, contains_from_has, contains_past}

-- ---- the lists of the code

pub flags_are : map (λ t. t.now) FLAG_CODES ≡ termcap_codes Flag
unfolding termcap_codes flag_codes
flags_are = refl

pub numbers_are : map (λ t. t.now) NUMBER_CODES ≡ termcap_codes Number
unfolding termcap_codes number_codes
numbers_are = refl

pub texts_are : map (λ t. t.now) TEXT_CODES ≡ termcap_codes Text
unfolding termcap_codes text_codes
texts_are = refl

-- ---- their indexes

unfoldable pub keys : Kind → List ℕ
keys Flag = FLAG_KEYS
keys Number = NUMBER_KEYS
keys Text = TEXT_KEYS

unfoldable pub places : Kind → List ℕ
places Flag = FLAG_PLACES
places Number = NUMBER_PLACES
places Text = TEXT_PLACES

pub length-codes : (k : Kind) → length (termcap_codes k) ≡ count_of k
unfolding termcap_codes flag_codes number_codes text_codes
length-codes Flag = refl
length-codes Number = refl
length-codes Text = refl

keys_climb : (k : Kind) → climbs (keys k) ≡ true
unfolding keys
keys_climb Flag = refl
keys_climb Number = refl
keys_climb Text = refl

flags_keyed : FLAG_KEYS ≡ map (λ p. key_of (word_at (termcap_codes Flag) p)) FLAG_PLACES
unfolding termcap_codes flag_codes key_of
flags_keyed = refl

numbers_keyed : NUMBER_KEYS ≡ map (λ p. key_of (word_at (termcap_codes Number) p)) NUMBER_PLACES
unfolding termcap_codes number_codes key_of
numbers_keyed = refl

texts_keyed : TEXT_KEYS ≡ map (λ p. key_of (word_at (termcap_codes Text) p)) TEXT_PLACES
unfolding termcap_codes text_codes key_of
texts_keyed = refl

keyed : (k : Kind) → keys k ≡ map (λ p. key_of (word_at (termcap_codes k) p)) (places k)
unfolding keys places
keyed Flag = flags_keyed
keyed Number = numbers_keyed
keyed Text = texts_keyed

places_within : (k : Kind) → list_all (λ p. nat_lt p (count_of k)) (places k) ≡ true
unfolding places
places_within Flag = refl
places_within Number = refl
places_within Text = refl

flags_cover : covers 0 44 FLAG_PLACES ≡ true
flags_cover = refl

numbers_cover : covers 0 39 NUMBER_PLACES ≡ true
numbers_cover = refl

-- the strings before smgl, and those after it
texts_cover : covers 0 271 TEXT_PLACES ≡ true
texts_cover = refl

later_texts_cover : covers 272 142 TEXT_PLACES ≡ true
later_texts_cover = refl

text_listed : (i : ℕ) → i < 414 → i ≢ 271 → Contains TEXT_PLACES i
text_listed i l other = elim (cases_lt i 271) [
  | inl below ↦ contains_from_covers 271 TEXT_PLACES texts_cover i below
  | inr not_below ↦ elim (cases_lt 271 i) [
    | inl above ↦
        let past : 272 + (i - 272) ≡ i = omega arith in
        subst (λ n. Contains TEXT_PLACES n) past (contains_past 272 142 TEXT_PLACES later_texts_cover (i - 272) (omega arith))
    | inr not_above ↦ let same : i ≡ 271 = omega arith in absurd (other same)
  ]
]

-- a code that a later capability of its kind has too: that of smgl
abbrev pub IsSharedCode : Kind → ℕ → Type 0
IsSharedCode Flag i = ⊥
IsSharedCode Number i = ⊥
IsSharedCode Text i = i ≡ 271

-- each other place has a row
pub listed : (k : Kind) (i : ℕ) → i < count_of k → (IsSharedCode k i → ⊥) → Contains (places k) i
unfolding places
listed Flag i l other = contains_from_covers 44 FLAG_PLACES flags_cover i l
listed Number i l other = contains_from_covers 39 NUMBER_PLACES numbers_cover i l
listed Text i l other = text_listed i l other

-- smglr has the code of smgl
smglr_listed : IsIndexed (termcap_codes Text) TEXT_PLACES 271
unfolding termcap_codes text_codes
smglr_listed = record { place = 368; listed = contains_from_has 368 TEXT_PLACES refl; later = omega arith; same = refl }

text_indexed : (i : ℕ) → i < 414 → IsIndexed (termcap_codes Text) TEXT_PLACES i
text_indexed i l = elim (cases_lt i 271) [
  | inl below ↦ record { place = i; listed = text_listed i l (λ e. absurd (omega (arith, below, e))); later = omega arith; same = refl }
  | inr not_below ↦ elim (cases_lt 271 i) [
    | inl above ↦ record { place = i; listed = text_listed i l (λ e. absurd (omega (arith, above, e))); later = omega arith; same = refl }
    | inr not_above ↦ let same : 271 ≡ i = omega arith in subst (λ n. IsIndexed (termcap_codes Text) TEXT_PLACES n) same smglr_listed
  ]
]

indexed : (k : Kind) (i : ℕ) → i < count_of k → IsIndexed (termcap_codes k) (places k) i
unfolding places
indexed Flag i l = record { place = i; listed = contains_from_covers 44 FLAG_PLACES flags_cover i l; later = omega arith; same = refl }
indexed Number i l = record { place = i; listed = contains_from_covers 39 NUMBER_PLACES numbers_cover i l; later = omega arith; same = refl }
indexed Text i l = text_indexed i l

pub index_of : (k : Kind) → IsIndex (termcap_codes k) (keys k) (places k)
index_of k = record {
  rise = keys_climb k;
  keyed = keyed k;
  within = λ row l. rw length-codes (ltb-true _ _ (AllPass-from_list_all (λ p. nat_lt p (count_of k)) (places k) (places_within k) row 0 l));
  all = λ i l. indexed k i (rw (← length-codes) l);
}

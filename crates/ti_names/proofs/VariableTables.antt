-- The lists of variables, and their indexes.
use Rattle.std.proofs.Common.{◌≡◌, ◌≢◌, ℕ, ◌<◌, true, nat_lt, List, map, length, refl, arith, ltb-true}
use Rattle.std.specs.List.{list_all, Contains}
use Rattle.std.proofs.lemmas.List.Sums.{AllPass-from_list_all}
use Rattle.ti_caps.specs.declared.capability.Kind.{Kind}
use Rattle.ti_caps.specs.declared.capability.Kind.TheVariants.{Flag, Number, Text}
use Rattle.ti_caps.specs.Tables.{count_of}
use Rattle.ti_names.specs.declared.variable_tables.TheConstants.{FLAG_KEYS, FLAG_PLACES, FLAG_VARIABLES, NUMBER_KEYS, NUMBER_PLACES, NUMBER_VARIABLES}
use Rattle.ti_names.specs.declared.variable_tables.TheConstants.{TEXT_KEYS, TEXT_PLACES, TEXT_VARIABLES}
use Rattle.ti_names.specs.Names.{variables}
use Rattle.ti_names.specs.Variables.{flag_variables, number_variables, text_variables}
use Rattle.ti_names.specs.inside.Index.{IsIndex, climbs, key_of, word_at}
use Rattle.ti_names.proofs.Cover.{covers, contains_from_covers, lacks}

-- ---- the lists of the code

pub flags_are : map (λ t. t.now) FLAG_VARIABLES ≡ variables Flag
unfolding variables flag_variables
flags_are = refl

pub numbers_are : map (λ t. t.now) NUMBER_VARIABLES ≡ variables Number
unfolding variables number_variables
numbers_are = refl

pub texts_are : map (λ t. t.now) TEXT_VARIABLES ≡ variables Text
unfolding variables text_variables
texts_are = refl

-- ---- their indexes

unfoldable pub keys : Kind → List ℕ
keys Flag = FLAG_KEYS
keys Number = NUMBER_KEYS
keys Text = TEXT_KEYS

unfoldable pub places : Kind → List ℕ
places Flag = FLAG_PLACES
places Number = NUMBER_PLACES
places Text = TEXT_PLACES

pub length-variables : (k : Kind) → length (variables k) ≡ count_of k
unfolding variables flag_variables number_variables text_variables
length-variables Flag = refl
length-variables Number = refl
length-variables Text = refl

keys_climb : (k : Kind) → climbs (keys k) ≡ true
unfolding keys
keys_climb Flag = refl
keys_climb Number = refl
keys_climb Text = refl

flags_keyed : FLAG_KEYS ≡ map (λ p. key_of (word_at (variables Flag) p)) FLAG_PLACES
unfolding variables flag_variables key_of
flags_keyed = refl

numbers_keyed : NUMBER_KEYS ≡ map (λ p. key_of (word_at (variables Number) p)) NUMBER_PLACES
unfolding variables number_variables key_of
numbers_keyed = refl

texts_keyed : TEXT_KEYS ≡ map (λ p. key_of (word_at (variables Text) p)) TEXT_PLACES
unfolding variables text_variables key_of
texts_keyed = refl

keyed : (k : Kind) → keys k ≡ map (λ p. key_of (word_at (variables k) p)) (places k)
unfolding keys places
keyed Flag = flags_keyed
keyed Number = numbers_keyed
keyed Text = texts_keyed

places_within : (k : Kind) → list_all (λ p. nat_lt p (count_of k)) (places k) ≡ true
unfolding places
places_within Flag = refl
places_within Number = refl
places_within Text = refl

places_cover : (k : Kind) → covers 0 (count_of k) (places k) ≡ true
unfolding places
places_cover Flag = refl
places_cover Number = refl
places_cover Text = refl

-- each place has a row
pub listed : (k : Kind) (i : ℕ) → i < count_of k → Contains (places k) i
listed k i l = contains_from_covers (count_of k) (places k) (places_cover k) i l

pub index_of : (k : Kind) → IsIndex (variables k) (keys k) (places k)
index_of k = record {
  rise = keys_climb k;
  keyed = keyed k;
  within = λ row l. rw length-variables (ltb-true _ _ (AllPass-from_list_all (λ p. nat_lt p (count_of k)) (places k) (places_within k) row 0 l));
  all = λ i l. record { place = i; listed = listed k i (rw (← length-variables) l); later = omega arith; same = refl };
}

-- ---- the keys of different kinds

pub flags_lack : (k : Kind) → k ≢ Flag → list_all (λ key. lacks FLAG_KEYS key) (keys k) ≡ true
unfolding keys
flags_lack Flag other = absurd (other refl)
flags_lack Number other = refl
flags_lack Text other = refl

pub numbers_lack : list_all (λ key. lacks NUMBER_KEYS key) TEXT_KEYS ≡ true
numbers_lack = refl

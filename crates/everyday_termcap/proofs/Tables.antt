-- The lists of the code are those of the definitions.
use Rattle.std.proofs.Common.{◌≡◌, ℕ, List, map, bytes_eq, true, false, refl}
use Rattle.std.specs.List.{list_any}
use Rattle.everyday_termcap.specs.declared.lists.TheConstants.{ALL_FLAGS, ALL_NUMBERS, ALL_TEXTS, FLAGS, NUMBERS, TEXTS, WITH_PARAMETERS}
use Rattle.everyday_termcap.specs.Lists.{all_flag_list, all_number_list, all_text_list, flag_codes, flag_list, has_parameters, number_codes, number_list, parameter_list, text_codes, text_list}

pub parameters_are : (code : List ℕ) → list_any (λ other. bytes_eq other.now code) WITH_PARAMETERS ≡ has_parameters code
unfolding has_parameters parameter_list
parameters_are code = refl

pub flags_are : map (λ t. t.now) FLAGS ≡ flag_codes false
unfolding flag_codes flag_list
flags_are = refl

pub all_flags_are : map (λ t. t.now) ALL_FLAGS ≡ flag_codes true
unfolding flag_codes all_flag_list
all_flags_are = refl

pub numbers_are : map (λ t. t.now) NUMBERS ≡ number_codes false
unfolding number_codes number_list
numbers_are = refl

pub all_numbers_are : map (λ t. t.now) ALL_NUMBERS ≡ number_codes true
unfolding number_codes all_number_list
all_numbers_are = refl

pub texts_are : map (λ t. t.now) TEXTS ≡ text_codes false
unfolding text_codes text_list
texts_are = refl

pub all_texts_are : map (λ t. t.now) ALL_TEXTS ≡ text_codes true
unfolding text_codes all_text_list
all_texts_are = refl

-- Mappings from a type of port to a type of terminal (tset(1), "Terminal Type Mapping").
use Rattle.std.specs.Prelude.{◌≡◌, ℕ, ◌+◌, ◌==◌, nat_lt, nat_le, ◌&&◌, ◌||◌, Bool, true}
use Rattle.std.specs.Prelude.{false, not, if◌then◌else◌, is_some, length, List, [], ◌∷◌, bytes_eq}
use Rattle.std.specs.Prelude.{Option, Some, None, option_map, unwrap_or, Result, Ok, Err, take, drop, position}
use Rattle.std.specs.List.{list_any}
use Rattle.ti_text.specs.Ascii as ascii
use Rattle.everyday_tset.specs.Rates.{code_named, without_B}
use Rattle.everyday_tset.specs.declared.mappings.Mapping as declared
use Rattle.everyday_tset.specs.declared.mappings.MappingFault as declared_fault
use Rattle.everyday_tset.specs.declared.mappings.MappingFault.TheVariants as fault
use Rattle.everyday_tset.specs.declared.mappings.Test.{Test}
use Rattle.everyday_tset.specs.declared.mappings.Test.TheVariants.{Any, Above, AtLeast, Equal, AtMost, Below, Never}

-- ---- tests of the rate

-- whether a sign is part of a test
abbrev pub is_test_sign : ℕ → Bool
is_test_sign sign =
    sign == ascii.byte_of ">" || sign == ascii.byte_of "<" || sign == ascii.byte_of "@" || sign == ascii.byte_of "=" || sign == ascii.byte_of "!"

-- whether a sign ends the type of the port
abbrev pub ends_port : ℕ → Bool
ends_port sign = is_test_sign sign || sign == ascii.byte_of ":"

-- whether signs have this one
abbrev pub has : List ℕ → ℕ → Bool
has signs sign = list_any (λ s. s == sign) signs

-- whether signs ask for what is above and for what is below
abbrev pub has_conflict : List ℕ → Bool
has_conflict signs = has signs (ascii.byte_of ">") && has signs (ascii.byte_of "<")

-- the test that takes the rates that are above, equal and below; one that takes all, or all but the
-- equal one, takes none, as in ncurses
abbrev pub test_taking : Bool → Bool → Bool → Test
test_taking true true true = Never
test_taking true true false = AtLeast
test_taking true false true = Never
test_taking true false false = Above
test_taking false true true = AtMost
test_taking false true false = Equal
test_taking false false true = Below
test_taking false false false = Never

-- the other value, if it is to be inverted
abbrev pub inverted : Bool → Bool → Bool
inverted true true = false
inverted true false = true
inverted false b = b

-- the test that signs make; `!` inverts it
abbrev pub test_of : List ℕ → Test
test_of [] = Any
test_of (sign ∷ signs) =
    let all = sign ∷ signs in
    let inverts = has all (ascii.byte_of "!") in
    test_taking (inverted inverts (has all (ascii.byte_of ">")))
    (inverted inverts (has all (ascii.byte_of "@") || has all (ascii.byte_of "=")))
    (inverted inverts (has all (ascii.byte_of "<")))

-- whether a rate passes the test with the rate of a mapping
abbrev pub passes : Test → ℕ → ℕ → Bool
passes Any mapped rate = true
passes Above mapped rate = nat_lt mapped rate
passes AtLeast mapped rate = nat_le mapped rate
passes Equal mapped rate = rate == mapped
passes AtMost mapped rate = nat_le rate mapped
passes Below mapped rate = nat_lt rate mapped
passes Never mapped rate = false

-- ---- mappings

-- a mapping: the type of port, if it is not for all; the test, and the rate for it; the type of terminal
pub record Mapping : Type 0 where
  pub port : Option (List ℕ)
  pub test : Test
  pub rate : ℕ
  pub terminal : List ℕ

-- why a text is no mapping
pub data Fault : Type 0 where
  bad_form : Fault
  unknown_rate : List ℕ → Fault

-- a mapping with that rate, if it is one
abbrev pub with_rate : List ℕ → Option ℕ → Option (List ℕ) → Test → List ℕ → Result Mapping Fault
with_rate name None port test terminal = Err (unknown_rate name)
with_rate name (Some rate) port test terminal = Ok (record { port = port; test = test; rate = rate; terminal = terminal })

-- what is left after a test: a rate, a colon and the type of terminal
abbrev pub rated : Option (List ℕ) → Test → List ℕ → Option ℕ → Result Mapping Fault
rated port test rest None = Err bad_form
rated port test rest (Some colon) =
    if colon == 0 then Err bad_form
    else with_rate (without_B (take colon rest)) (code_named (without_B (take colon rest))) port test (drop (colon + 1) rest)

-- the mapping of a port, with the signs of a test and what follows them: a colon at once only if there is
-- no test
abbrev pub after_signs : Option (List ℕ) → List ℕ → List ℕ → Result Mapping Fault
after_signs port [] rest = Ok (record { port = port; test = Any; rate = 0; terminal = drop 1 rest })
after_signs port (sign ∷ signs) rest =
    if has_conflict (sign ∷ signs) then Err bad_form
    else rated port (test_of (sign ∷ signs)) rest (position (λ s. s == ascii.byte_of ":") rest)

-- how many signs of a test are at the front
abbrev pub sign_count : List ℕ → ℕ
sign_count text = unwrap_or (position (λ s. not (is_test_sign s)) text) (length text)

-- the type of port before the signs, for all of them if there is none
abbrev pub port_named : List ℕ → Option (List ℕ)
port_named [] = None
port_named (sign ∷ signs) = Some (sign ∷ signs)

-- the mapping of a type of port, with what follows it
abbrev pub after_port : List ℕ → List ℕ → Result Mapping Fault
after_port port after = after_signs (port_named port) (take (sign_count after) after) (drop (sign_count after) after)

-- the mapping that a text is, given where the type of port ends: `[PORT][TEST RATE]:TERMINAL`, or a type of
-- terminal alone
abbrev pub mapping_cut : List ℕ → Option ℕ → Result Mapping Fault
mapping_cut text None = Ok (record { port = None; test = Any; rate = 0; terminal = text })
mapping_cut text (Some at) = after_port (take at text) (drop at text)

-- a mapping for the port that its option names, if the option names one: then the text may not
abbrev pub with_port : Option (List ℕ) → Result Mapping Fault → Result Mapping Fault
with_port None read = read
with_port (Some port) (Err why) = Err why
with_port (Some port) (Ok m) = if is_some m.port then Err bad_form else Ok (record m { port = Some port })

-- the mapping that the text of an option is, given the port that the option names
abbrev pub mapping_in : Option (List ℕ) → List ℕ → Result Mapping Fault
mapping_in port text = with_port port (mapping_cut text (position ends_port text))

-- whether a mapping is for this type of port
abbrev pub is_for : Option (List ℕ) → List ℕ → Bool
is_for None type = true
is_for (Some port) type = bytes_eq port type

-- whether a mapping applies to a type at a rate
abbrev pub applies : Mapping → List ℕ → ℕ → Bool
applies m type rate = is_for m.port type && passes m.test m.rate rate

-- the type of terminal for a type, by the first mapping that applies
abbrev pub mapped : List Mapping → List ℕ → ℕ → List ℕ
mapped [] type rate = type
mapped (m ∷ ms) type rate = if applies m type rate then m.terminal else mapped ms type rate

-- ---- what the code holds, as plain data

-- a mapping
abbrev pub mapping_of : declared.Mapping → Mapping
mapping_of m = record { port = option_map (λ p. p.now) m.port; test = m.test; rate = m.rate; terminal = m.terminal.now }

-- why a text is no mapping
abbrev pub fault_of : declared_fault.MappingFault → Fault
fault_of fault.BadForm = bad_form
fault_of (fault.UnknownRate name) = unknown_rate name.now

-- this is the mapping that was read, or why there is none
abbrev pub Reads : Result Mapping Fault → Result declared.Mapping declared_fault.MappingFault → Type 0
Reads read (Ok m) = read ≡ Ok (mapping_of m)
Reads read (Err why) = read ≡ Err (fault_of why)

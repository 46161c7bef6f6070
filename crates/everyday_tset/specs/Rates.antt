-- The rates of a line, as mappings name them (tset(1); termios(3), "Line speed").
use Rattle.std.specs.Prelude.{ℕ, ◌==◌, ◌||◌, if◌then◌else◌, List, [], ◌∷◌, codes, bytes_eq, Option, Some, None}
use Rattle.ti_text.specs.Ascii as ascii

-- the codes of the system for the rates that POSIX does not have (termios(3), "Line speed")
abbrev pub high_code : List ℕ → Option ℕ
high_code name =
    if bytes_eq name (codes "57600") then Some 4097
    else if bytes_eq name (codes "115200") then Some 4098
    else if bytes_eq name (codes "230400") then Some 4099
    else if bytes_eq name (codes "460800") then Some 4100
    else if bytes_eq name (codes "500000") then Some 4101
    else if bytes_eq name (codes "576000") then Some 4102
    else if bytes_eq name (codes "921600") then Some 4103
    else if bytes_eq name (codes "1000000") then Some 4104
    else if bytes_eq name (codes "1152000") then Some 4105
    else if bytes_eq name (codes "1500000") then Some 4106
    else if bytes_eq name (codes "2000000") then Some 4107
    else if bytes_eq name (codes "2500000") then Some 4108
    else if bytes_eq name (codes "3000000") then Some 4109
    else if bytes_eq name (codes "3500000") then Some 4110
    else if bytes_eq name (codes "4000000") then Some 4111
    else None

-- the code of the system for a rate in bits per second: a greater rate has a greater code
abbrev pub code_named : List ℕ → Option ℕ
code_named name =
    if bytes_eq name (codes "0") then Some 0
    else if bytes_eq name (codes "50") then Some 1
    else if bytes_eq name (codes "75") then Some 2
    else if bytes_eq name (codes "110") then Some 3
    else if bytes_eq name (codes "134") || bytes_eq name (codes "134.5") then Some 4
    else if bytes_eq name (codes "150") then Some 5
    else if bytes_eq name (codes "200") then Some 6
    else if bytes_eq name (codes "300") then Some 7
    else if bytes_eq name (codes "600") then Some 8
    else if bytes_eq name (codes "1200") then Some 9
    else if bytes_eq name (codes "1800") then Some 10
    else if bytes_eq name (codes "2400") then Some 11
    else if bytes_eq name (codes "4800") then Some 12
    else if bytes_eq name (codes "9600") then Some 13
    else if bytes_eq name (codes "19200") then Some 14
    else if bytes_eq name (codes "38400") then Some 15
    else high_code name

-- a rate without a `B` before its number
abbrev pub without_B : List ℕ → List ℕ
without_B [] = []
without_B (sign ∷ signs) = if sign == ascii.byte_of "B" then signs else sign ∷ signs

-- The capabilities that have a code, and those of them that termcap has, by the bytes of their codes:
-- termcap(5) and terminfo(5), "Predefined Capabilities" and "Termcap Entries" (infocmp(1), -C and -r);
-- ncurses has them so in its tables.
use Prim.Native.String.{String}
use Rattle.std.specs.Prelude.{ℕ, Bool, true, false, List, [], ◌∷◌, map, codes, bytes_eq}
use Rattle.std.specs.List.{list_any}

-- the booleans that termcap has
unfoldable pub flag_list : List String
flag_list =
    "NL" ∷ "am" ∷ "bs" ∷ "bw" ∷ "da" ∷ "db" ∷ "eo" ∷ "es" ∷ "gn" ∷ "hc" ∷ "hs" ∷ "hz" ∷ "in" ∷ "km" ∷ "mi" ∷ "ms" ∷ "nc" ∷
    "ns" ∷ "os" ∷ "pt" ∷ "ul" ∷ "xb" ∷ "xn" ∷ "xo" ∷ "xr" ∷ "xs" ∷ "xt" ∷ []

-- the numbers that it has
unfoldable pub number_list : List String
number_list = "co" ∷ "dB" ∷ "dC" ∷ "dN" ∷ "dT" ∷ "it" ∷ "li" ∷ "lm" ∷ "ma" ∷ "pb" ∷ "sg" ∷ "ug" ∷ "vt" ∷ "ws" ∷ []

-- the strings that it has
unfoldable pub text_list : List String
text_list =
    "AL" ∷ "CC" ∷ "CM" ∷ "DC" ∷ "DL" ∷ "DO" ∷ "IC" ∷ "K1" ∷ "K2" ∷ "K3" ∷ "K4" ∷ "K5" ∷ "LE" ∷ "RI" ∷ "SF" ∷ "SR" ∷ "UP" ∷
    "ae" ∷ "al" ∷ "as" ∷ "bc" ∷ "bl" ∷ "bt" ∷ "cd" ∷ "ce" ∷ "cl" ∷ "cm" ∷ "cr" ∷ "cs" ∷ "ct" ∷ "dc" ∷ "dl" ∷ "dm" ∷ "do" ∷
    "ds" ∷ "ec" ∷ "ed" ∷ "ei" ∷ "ff" ∷ "fs" ∷ "hd" ∷ "ho" ∷ "hu" ∷ "i1" ∷ "i2" ∷ "i3" ∷ "ic" ∷ "if" ∷ "im" ∷ "ip" ∷ "is" ∷
    "k0" ∷ "k1" ∷ "k2" ∷ "k3" ∷ "k4" ∷ "k5" ∷ "k6" ∷ "k7" ∷ "k8" ∷ "k9" ∷ "kD" ∷ "kH" ∷ "kI" ∷ "kN" ∷ "kP" ∷ "kb" ∷ "kd" ∷
    "ke" ∷ "kh" ∷ "kl" ∷ "kr" ∷ "ks" ∷ "ku" ∷ "le" ∷ "ll" ∷ "ma" ∷ "mb" ∷ "md" ∷ "me" ∷ "mh" ∷ "mm" ∷ "mo" ∷ "mr" ∷ "nd" ∷
    "nl" ∷ "nw" ∷ "pc" ∷ "rc" ∷ "rp" ∷ "rs" ∷ "sa" ∷ "sc" ∷ "se" ∷ "sf" ∷ "so" ∷ "sr" ∷ "st" ∷ "ta" ∷ "te" ∷ "ti" ∷ "ts" ∷
    "uc" ∷ "ue" ∷ "up" ∷ "us" ∷ "vb" ∷ "ve" ∷ "vi" ∷ "vs" ∷ []

-- all booleans that have a code
unfoldable pub all_flag_list : List String
all_flag_list =
    "5i" ∷ "HC" ∷ "MT" ∷ "ND" ∷ "NL" ∷ "NP" ∷ "NR" ∷ "YA" ∷ "YB" ∷ "YC" ∷ "YD" ∷ "YE" ∷ "YF" ∷ "YG" ∷ "am" ∷ "bs" ∷
    "bw" ∷ "cc" ∷ "da" ∷ "db" ∷ "eo" ∷ "es" ∷ "gn" ∷ "hc" ∷ "hl" ∷ "hs" ∷ "hz" ∷ "in" ∷ "km" ∷ "mi" ∷ "ms" ∷ "nc" ∷
    "ns" ∷ "nx" ∷ "os" ∷ "pt" ∷ "ul" ∷ "ut" ∷ "xb" ∷ "xn" ∷ "xo" ∷ "xr" ∷ "xs" ∷ "xt" ∷ []

-- all numbers that have one
unfoldable pub all_number_list : List String
all_number_list =
    "BT" ∷ "Co" ∷ "MW" ∷ "NC" ∷ "Nl" ∷ "Ya" ∷ "Yb" ∷ "Yc" ∷ "Yd" ∷ "Ye" ∷ "Yf" ∷ "Yg" ∷ "Yh" ∷ "Yi" ∷ "Yj" ∷ "Yk" ∷
    "Yl" ∷ "Ym" ∷ "Yn" ∷ "Yo" ∷ "Yp" ∷ "co" ∷ "dB" ∷ "dC" ∷ "dN" ∷ "dT" ∷ "it" ∷ "kn" ∷ "lh" ∷ "li" ∷ "lm" ∷ "lw" ∷
    "ma" ∷ "pa" ∷ "pb" ∷ "sg" ∷ "ug" ∷ "vt" ∷ "ws" ∷ []

-- all strings that have one; `ML` is that of two
unfoldable pub all_text_list : List String
all_text_list =
    "!1" ∷ "!2" ∷ "!3" ∷ "#1" ∷ "#2" ∷ "#3" ∷ "#4" ∷ "%0" ∷ "%1" ∷ "%2" ∷ "%3" ∷ "%4" ∷ "%5" ∷ "%6" ∷ "%7" ∷ "%8" ∷
    "%9" ∷ "%a" ∷ "%b" ∷ "%c" ∷ "%d" ∷ "%e" ∷ "%f" ∷ "%g" ∷ "%h" ∷ "%i" ∷ "%j" ∷ "&0" ∷ "&1" ∷ "&2" ∷ "&3" ∷ "&4" ∷
    "&5" ∷ "&6" ∷ "&7" ∷ "&8" ∷ "&9" ∷ "*0" ∷ "*1" ∷ "*2" ∷ "*3" ∷ "*4" ∷ "*5" ∷ "*6" ∷ "*7" ∷ "*8" ∷ "*9" ∷ "@0" ∷
    "@1" ∷ "@2" ∷ "@3" ∷ "@4" ∷ "@5" ∷ "@6" ∷ "@7" ∷ "@8" ∷ "@9" ∷ "AB" ∷ "AF" ∷ "AL" ∷ "CC" ∷ "CM" ∷ "CW" ∷ "DC" ∷
    "DI" ∷ "DK" ∷ "DL" ∷ "DO" ∷ "F1" ∷ "F2" ∷ "F3" ∷ "F4" ∷ "F5" ∷ "F6" ∷ "F7" ∷ "F8" ∷ "F9" ∷ "FA" ∷ "FB" ∷ "FC" ∷
    "FD" ∷ "FE" ∷ "FF" ∷ "FG" ∷ "FH" ∷ "FI" ∷ "FJ" ∷ "FK" ∷ "FL" ∷ "FM" ∷ "FN" ∷ "FO" ∷ "FP" ∷ "FQ" ∷ "FR" ∷ "FS" ∷
    "FT" ∷ "FU" ∷ "FV" ∷ "FW" ∷ "FX" ∷ "FY" ∷ "FZ" ∷ "Fa" ∷ "Fb" ∷ "Fc" ∷ "Fd" ∷ "Fe" ∷ "Ff" ∷ "Fg" ∷ "Fh" ∷ "Fi" ∷
    "Fj" ∷ "Fk" ∷ "Fl" ∷ "Fm" ∷ "Fn" ∷ "Fo" ∷ "Fp" ∷ "Fq" ∷ "Fr" ∷ "G1" ∷ "G2" ∷ "G3" ∷ "G4" ∷ "GC" ∷ "GD" ∷ "GH" ∷
    "GL" ∷ "GR" ∷ "GU" ∷ "GV" ∷ "Gm" ∷ "HU" ∷ "IC" ∷ "Ic" ∷ "Ip" ∷ "K1" ∷ "K2" ∷ "K3" ∷ "K4" ∷ "K5" ∷ "Km" ∷ "LE" ∷
    "LF" ∷ "LO" ∷ "Lf" ∷ "MC" ∷ "ML" ∷ "MR" ∷ "MT" ∷ "Mi" ∷ "PA" ∷ "PU" ∷ "QD" ∷ "RA" ∷ "RC" ∷ "RF" ∷ "RI" ∷ "RQ" ∷
    "RX" ∷ "S1" ∷ "S2" ∷ "S3" ∷ "S4" ∷ "S5" ∷ "S6" ∷ "S7" ∷ "S8" ∷ "SA" ∷ "SC" ∷ "SF" ∷ "SR" ∷ "SX" ∷ "Sb" ∷ "Sf" ∷
    "TO" ∷ "UP" ∷ "WA" ∷ "WG" ∷ "XF" ∷ "XN" ∷ "Xh" ∷ "Xl" ∷ "Xo" ∷ "Xr" ∷ "Xt" ∷ "Xv" ∷ "Xy" ∷ "YI" ∷ "YZ" ∷ "Yv" ∷
    "Yw" ∷ "Yx" ∷ "Yy" ∷ "Yz" ∷ "ZA" ∷ "ZB" ∷ "ZC" ∷ "ZD" ∷ "ZE" ∷ "ZF" ∷ "ZG" ∷ "ZH" ∷ "ZI" ∷ "ZJ" ∷ "ZK" ∷ "ZL" ∷
    "ZM" ∷ "ZN" ∷ "ZO" ∷ "ZP" ∷ "ZQ" ∷ "ZR" ∷ "ZS" ∷ "ZT" ∷ "ZU" ∷ "ZV" ∷ "ZW" ∷ "ZX" ∷ "ZY" ∷ "ZZ" ∷ "Za" ∷ "Zb" ∷
    "Zc" ∷ "Zd" ∷ "Ze" ∷ "Zf" ∷ "Zg" ∷ "Zh" ∷ "Zi" ∷ "Zj" ∷ "Zk" ∷ "Zl" ∷ "Zm" ∷ "Zn" ∷ "Zo" ∷ "Zp" ∷ "Zq" ∷ "Zr" ∷
    "Zs" ∷ "Zt" ∷ "Zu" ∷ "Zv" ∷ "Zw" ∷ "Zx" ∷ "Zy" ∷ "Zz" ∷ "ac" ∷ "ae" ∷ "al" ∷ "as" ∷ "bc" ∷ "bl" ∷ "bt" ∷ "bx" ∷
    "cb" ∷ "cd" ∷ "ce" ∷ "ch" ∷ "ci" ∷ "cl" ∷ "cm" ∷ "cr" ∷ "cs" ∷ "ct" ∷ "cv" ∷ "dc" ∷ "dl" ∷ "dm" ∷ "do" ∷ "ds" ∷
    "dv" ∷ "eA" ∷ "ec" ∷ "ed" ∷ "ei" ∷ "ff" ∷ "fh" ∷ "fs" ∷ "hd" ∷ "ho" ∷ "hu" ∷ "i1" ∷ "i2" ∷ "i3" ∷ "iP" ∷ "ic" ∷
    "if" ∷ "im" ∷ "ip" ∷ "is" ∷ "k0" ∷ "k1" ∷ "k2" ∷ "k3" ∷ "k4" ∷ "k5" ∷ "k6" ∷ "k7" ∷ "k8" ∷ "k9" ∷ "k;" ∷ "kA" ∷
    "kB" ∷ "kC" ∷ "kD" ∷ "kE" ∷ "kF" ∷ "kH" ∷ "kI" ∷ "kL" ∷ "kM" ∷ "kN" ∷ "kP" ∷ "kR" ∷ "kS" ∷ "kT" ∷ "ka" ∷ "kb" ∷
    "kd" ∷ "ke" ∷ "kh" ∷ "kl" ∷ "ko" ∷ "kr" ∷ "ks" ∷ "kt" ∷ "ku" ∷ "l0" ∷ "l1" ∷ "l2" ∷ "l3" ∷ "l4" ∷ "l5" ∷ "l6" ∷
    "l7" ∷ "l8" ∷ "l9" ∷ "la" ∷ "le" ∷ "ll" ∷ "ma" ∷ "mb" ∷ "md" ∷ "me" ∷ "mh" ∷ "mk" ∷ "ml" ∷ "mm" ∷ "mo" ∷ "mp" ∷
    "mr" ∷ "mu" ∷ "nd" ∷ "nl" ∷ "nw" ∷ "oc" ∷ "op" ∷ "pO" ∷ "pc" ∷ "pf" ∷ "pk" ∷ "pl" ∷ "pn" ∷ "po" ∷ "ps" ∷ "px" ∷
    "r1" ∷ "r2" ∷ "r3" ∷ "rP" ∷ "rc" ∷ "rf" ∷ "rp" ∷ "rs" ∷ "s0" ∷ "s1" ∷ "s2" ∷ "s3" ∷ "sA" ∷ "sa" ∷ "sc" ∷ "se" ∷
    "sf" ∷ "so" ∷ "sp" ∷ "sr" ∷ "st" ∷ "ta" ∷ "te" ∷ "ti" ∷ "ts" ∷ "u0" ∷ "u1" ∷ "u2" ∷ "u3" ∷ "u4" ∷ "u5" ∷ "u6" ∷
    "u7" ∷ "u8" ∷ "u9" ∷ "uc" ∷ "ue" ∷ "up" ∷ "us" ∷ "vb" ∷ "ve" ∷ "vi" ∷ "vs" ∷ "wi" ∷ "xl" ∷ []

-- the strings that have parameters, by terminfo(5): those with `#1` or more in their rows
unfoldable pub parameter_list : List String
parameter_list =
    "AB" ∷ "AF" ∷ "AL" ∷ "CM" ∷ "CW" ∷ "DC" ∷ "DI" ∷ "DL" ∷ "DO" ∷ "Gm" ∷ "IC" ∷ "Ic" ∷ "Ip" ∷ "LE" ∷ "ML" ∷ "MT" ∷
    "QD" ∷ "RI" ∷ "S1" ∷ "SC" ∷ "SF" ∷ "SR" ∷ "Sb" ∷ "Sf" ∷ "UP" ∷ "WG" ∷ "Xy" ∷ "YI" ∷ "YZ" ∷ "Yw" ∷ "Yz" ∷ "ZA" ∷
    "ZB" ∷ "ZC" ∷ "ZD" ∷ "ZE" ∷ "ZY" ∷ "Zc" ∷ "Zf" ∷ "Zg" ∷ "Zh" ∷ "Zi" ∷ "Zj" ∷ "Zl" ∷ "Zm" ∷ "Zn" ∷ "Zp" ∷ "Zq" ∷
    "Zr" ∷ "Zt" ∷ "Zy" ∷ "ch" ∷ "cm" ∷ "cs" ∷ "cv" ∷ "ec" ∷ "pO" ∷ "pk" ∷ "pl" ∷ "pn" ∷ "px" ∷ "rp" ∷ "sA" ∷ "sa" ∷
    "sp" ∷ "ts" ∷ "u0" ∷ "u1" ∷ "u2" ∷ "u3" ∷ "u4" ∷ "u5" ∷ "u6" ∷ "u7" ∷ "u8" ∷ "u9" ∷ "wi" ∷ "xl" ∷ []

-- the codes of each kind: of all, or of what termcap has
unfoldable pub flag_codes : (all : Bool) → List (List ℕ)
flag_codes true = map codes all_flag_list
flag_codes false = map codes flag_list

unfoldable pub number_codes : (all : Bool) → List (List ℕ)
number_codes true = map codes all_number_list
number_codes false = map codes number_list

unfoldable pub text_codes : (all : Bool) → List (List ℕ)
text_codes true = map codes all_text_list
text_codes false = map codes text_list

-- whether the string of a code has parameters
unfoldable pub has_parameters : List ℕ → Bool
has_parameters code = list_any (λ other. bytes_eq other code) (map codes parameter_list)

-- Formats, as terminfo(5) has them under "Parameterized Strings": bytes and codes, and conditionals
-- `%? test %t taken %e rest %;`, of which at most 64 are open at once (own). A format has a tree or
-- a place where it is stuck.
use Rattle.std.specs.Prelude.{◌≡◌, ℕ, suc, ◌+◌, ◌<◌, false, ◌⊎◌, List, [], ◌∷◌, ◌++◌, length, ◌==◌}
use Rattle.ti_formats.specs.declared.codes.Code.{Code}
use Rattle.ti_formats.specs.declared.codes.Token.{Token}
use Rattle.ti_formats.specs.declared.codes.Token.TheVariants.{Literal, Operation, If, Then, Else, EndIf}
use Rattle.ti_formats.specs.declared.codes.Placed.{Placed}
use Rattle.ti_text.specs.Ascii as ascii
use Rattle.ti_formats.specs.Codes.{IsCode}

-- ---- tokens

-- a token at a place
abbrev pub placed_token : ℕ → Token → Placed
placed_token place token = record { place = place; token = token }

-- the text, which begins at the place, is these tokens: a byte other than `%` is a token, and a `%`
-- begins a code
pub data IsCutIntoTokens : ℕ → List ℕ → List Placed → Type 0 where
  no_tokens : {place : ℕ} → IsCutIntoTokens place [] []
  then_byte : {place : ℕ} (b : ℕ) {text : List ℕ} {tokens : List Placed} → (b == ascii.percent) ≡ false →
      IsCutIntoTokens (suc place) text tokens → IsCutIntoTokens place (b ∷ text) (placed_token place (Literal b) ∷ tokens)
  then_code : {place : ℕ} (front : List ℕ) {token : Token} {rest : List ℕ} {tokens : List Placed} → IsCode front token →
      IsCutIntoTokens (suc place + length front) rest tokens → IsCutIntoTokens place (ascii.percent ∷ (front ++ rest)) (placed_token place token ∷ tokens)

-- ---- trees

-- how many conditionals may be open at once (own)
abbrev pub open_max : ℕ
open_max = 64

-- What a format is made of. A conditional with a `%t` is a choice in a group: its test, the part
-- taken, and the rest that is run if the test is 0, which is a choice again if it has a `%t` of its
-- own.
pub data FormatTree : Type 0 where
  nothing : FormatTree
  byte : ℕ → FormatTree → FormatTree
  code : (place : ℕ) → Code → FormatTree → FormatTree
  group : (conditional next : FormatTree) → FormatTree
  choice : (test taken rest : FormatTree) → FormatTree

-- A conditional is closed by a `%;`, or by the end of the format: what is left after it.
pub data Closes : List Placed → List Placed → Type 0 where
  by_mark : (place : ℕ) {rest : List Placed} → Closes (placed_token place EndIf ∷ rest) rest
  by_end : Closes [] []

mutual
  -- IsSequence depth tokens left t: the tokens begin with a sequence of bytes, codes and
  -- conditionals, inside `depth` open ones
  pub data IsSequence : ℕ → List Placed → List Placed → FormatTree → Type 0 where
    no_piece : {depth : ℕ} {left : List Placed} → IsSequence depth left left nothing
    byte_piece : {depth : ℕ} (place b : ℕ) {tokens left : List Placed} {next : FormatTree} →
        IsSequence depth tokens left next → IsSequence depth (placed_token place (Literal b) ∷ tokens) left (byte b next)
    code_piece : {depth : ℕ} (place : ℕ) (c : Code) {tokens left : List Placed} {next : FormatTree} →
        IsSequence depth tokens left next → IsSequence depth (placed_token place (Operation c) ∷ tokens) left (code place c next)
    conditional_piece : {depth : ℕ} (place : ℕ) {tokens inner after left : List Placed} {conditional next : FormatTree} → depth < open_max →
        IsConditional (suc depth) tokens inner conditional → Closes inner after → IsSequence depth after left next →
        IsSequence depth (placed_token place If ∷ tokens) left (group conditional next)

  -- what is in a conditional: S, or S `%t` S, or S `%t` S `%e` and again what is in a conditional
  pub data IsConditional : ℕ → List Placed → List Placed → FormatTree → Type 0 where
    test_alone : {depth : ℕ} {tokens left : List Placed} {test : FormatTree} → IsSequence depth tokens left test → IsConditional depth tokens left test
    test_then : {depth : ℕ} (place : ℕ) {tokens more left : List Placed} {test taken : FormatTree} →
        IsSequence depth tokens (placed_token place Then ∷ more) test → IsSequence depth more left taken →
        IsConditional depth tokens left (choice test taken nothing)
    test_then_else : {depth : ℕ} (place at : ℕ) {tokens more others left : List Placed} {test taken rest : FormatTree} →
        IsSequence depth tokens (placed_token place Then ∷ more) test → IsSequence depth more (placed_token at Else ∷ others) taken →
        IsConditional depth others left rest → IsConditional depth tokens left (choice test taken rest)

-- the tree of a list of tokens
abbrev pub AreTokensOf : List Placed → FormatTree → Type 0
AreTokensOf tokens t = IsSequence 0 tokens [] t

-- the tree of a format
pub record IsTree (format : List ℕ) (t : FormatTree) : Type 0 where
  pub tokens : List Placed
  pub cut : IsCutIntoTokens 0 format tokens
  pub parses : AreTokensOf tokens t

-- the tokens begin some list of tokens that has a tree
abbrev pub BeginsFormat : List Placed → Type 0
BeginsFormat tokens = (more : List Placed) × (t : FormatTree) × AreTokensOf (tokens ++ more) t

-- Own, since the manual says nothing of bad formats: the text before the place is whole tokens that
-- begin some format, a `%` is there, and no code that may come there begins there.
pub record IsStuck (format : List ℕ) (place : ℕ) : Type 0 where
  pub before : List ℕ
  pub after : List ℕ
  pub whole : format ≡ before ++ ascii.percent ∷ after
  pub length_before : length before ≡ place
  pub tokens : List Placed
  pub cut : IsCutIntoTokens 0 before tokens
  pub begins : BeginsFormat tokens
  pub none : (front rest : List ℕ) (token : Token) → after ≡ front ++ rest → IsCode front token →
      BeginsFormat (tokens ++ placed_token place token ∷ []) → ⊥

-- the law of formats: each has exactly one tree, or exactly one place where it is stuck
pub record HasOneTree (format : List ℕ) : Type 0 where
  pub some : ((t : FormatTree) × IsTree format t) ⊎ ((place : ℕ) × IsStuck format place)
  pub one_tree : (t u : FormatTree) → IsTree format t → IsTree format u → t ≡ u
  pub one_place : (i j : ℕ) → IsStuck format i → IsStuck format j → i ≡ j
  pub not_both : (t : FormatTree) (i : ℕ) → IsTree format t → IsStuck format i → ⊥

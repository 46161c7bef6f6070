-- Compiling a source.
use Rattle.std.proofs.Common.{◌≡◌, ◌+◌, ◌<◌, ◌≤◌, ℕ, List, [], ◌∷◌, ◌++◌, All, drop, map, length, get_or, sym, subst, ap, ◌∙◌, append_assoc, append-nil, arith}
use Rattle.std.proofs.Common.{Option, None, Some, Result, Ok, Err, inl, inr}
use Rattle.std.specs.Global.{Vec}
use Rattle.std.specs.Prelude.{IfOk}
use Rattle.std.proofs.lemmas.List.{drop_all, length-append}
use Rattle.std.proofs.lemmas.List.Elements.{All-map}
use Rattle.std.proofs.lemmas.Slice.Zip.{AllZip-long}
use Rattle.ti_source.specs.declared.parsing.Rule.{Rule}
use Rattle.ti_source.specs.declared.parsing.Rule.TheVariants.{OwnFirst}
use Rattle.base_meaning.specs.Faults.{SourceFault}
use Rattle.base_meaning.specs.Usable.{IsPlaced}
use Rattle.base_meaning.specs.declared.faults.Fault.{Fault}
use Rattle.user_compiling.specs.Entries.{AreStatesBy, IsStateBy, state_seen}
use Rattle.user_compiling.specs.Faults.{of_profile}
use Rattle.user_compiling.specs.Report.{IsExtendedPlaced}
use Rattle.user_compiling.specs.declared.compiled.Compiled.{Compiled}
use Rattle.tools_devices.specs.Tree.{Files}
use Rattle.tools_sources.specs.Sources.{AreTaken, first_line, source_texts}
use Rattle.everyday_sources.proofs.Finding.{left}
use Rattle.source_plain.specs.Reading.{plain_source}
use Rattle.everyday_sources.specs.Used.{KeepsFaults, ProblemSeen, TakesUsed, problem_seen}
use Rattle.everyday_sources.specs.declared.problem.Problem.{Problem}
use Rattle.everyday_names.specs.Fields.{fitted, long_field}
use Rattle.everyday_tic.specs.Outcomes.{Asked, Comes, ComesOf, ComesOfBlocks, ComesOfPlain, made_of, termcap_refusal}
use Rattle.everyday_tic.specs.Termcap.{IsFirstTermcap}
use Rattle.everyday_tic.specs.declared.options.TicOutcome.{TicOutcome}
use Rattle.everyday_tic.specs.inside.Found.{AreFoundFaults}

-- something becomes of each block
pub as_many : (rule : Rule) (texts : List (List ℕ)) (compiled : List Compiled) → AreStatesBy rule texts (map state_seen compiled)
    → length (map state_seen compiled) ≡ length texts
as_many rule texts compiled states = AllZip-long (IsStateBy rule texts) texts (map state_seen compiled) states

module _ {X Y Z : Type 0} (see : X → Y) (f : Y → Z) where
  -- after one was appended, what is still to come is as it was
  pub one_appended : (xs : List X) (i : ℕ) (x : X) (before after all : List Z) → i < length xs → x ≡ get_or xs i x → after ≡ before ++ f (see x) ∷ []
      → before ++ map f (map see (drop i xs)) ≡ all → after ++ map f (map see (drop (i + 1) xs)) ≡ all
  one_appended xs i x before after all low is appended so_far =
      rw (appended, append_assoc) (ap (λ (ys : List X). before ++ map f (map see ys)) (sym (left xs i x low is)) ∙ so_far)

  -- after the last, all is there
  pub all_appended : (xs : List X) (i : ℕ) (before all : List Z) → length xs ≤ i → before ++ map f (map see (drop i xs)) ≡ all → before ≡ all
  all_appended xs i before all past so_far =
      sym (append-nil before) ∙ ap (λ (ys : List X). before ++ map f (map see ys)) (sym (drop_all i xs past)) ∙ so_far

-- the faults of the profile are where they may be
pub profile_placed : (count : ℕ) (faults : List SourceFault) → All (IsPlaced count) faults → All (IsExtendedPlaced count) (map of_profile faults)
profile_placed count faults placed = All-map (IsExtendedPlaced count) of_profile faults placed

-- two things that hold of a result
pub both_ok : {T E : Type 0} (result : Result T E) (P Q : T → Type 0) → IfOk result P → IfOk result Q → IfOk result (λ x. P x × Q x)
both_ok (Ok x) P Q p q = (p, q)
both_ok (Err e) P Q p q = tt

-- the faults that were given are those of the blocks
pub found_before : (rule : Rule) (texts last : List (List ℕ)) (given : Option (Vec Fault)) → KeepsFaults rule texts last given
    → AreFoundFaults rule last given
found_before rule texts last None kept = tt
found_before rule texts last (Some found) kept = kept.1

-- ---- what comes of a source

-- the blocks of a source are no more than with others after them
pub within_all : (texts last others : List (List ℕ)) (count : ℕ) → last ≡ texts ++ others → count ≡ length texts → count ≤ length last
within_all texts last others count is same = omega (arith, ap length is, length-append texts others)

module _ {E : Type 0} (rule : Rule) (asked : Asked) (files : Option Files) (directories : List (List ℕ)) (file : List ℕ) where
  -- of blocks, by what is found for them
  pub comes_of_all : (first count : ℕ) (fields : List (Option (List ℕ))) (texts last : List (List ℕ)) (before after : ℕ) (problems : List Problem) (result : Result TicOutcome E)
      → count ≡ length texts → TakesUsed rule asked.user_defined files directories texts before after last (map problem_seen problems)
      → IfOk result (λ outcome. ComesOf rule asked file first fields last count (map problem_seen problems) (made_of outcome))
      → IfOk result (λ outcome. (ts : List (List ℕ)) × (ps : List ProblemSeen)
      × TakesUsed rule asked.user_defined files directories texts before after ts ps
      × ComesOf rule asked file first fields ts (length texts) ps (made_of outcome))
  comes_of_all first count fields texts last before after problems (Ok outcome) many taken h = (
    last,
    map problem_seen problems,
    taken,
    subst (λ (n : ℕ). ComesOf rule asked file first fields last n (map problem_seen problems) (made_of outcome)) many h,
  )
  comes_of_all first count fields texts last before after problems (Err e) many taken h = tt

  -- of blocks of which none is termcap
  pub none_comes : (first : ℕ) (fields : List (Option (List ℕ))) (blocks : List (List ℕ)) (before after : ℕ) (result : Result TicOutcome E) → IsFirstTermcap blocks None
      → IfOk result (λ outcome. (ts : List (List ℕ)) × (ps : List ProblemSeen)
      × TakesUsed rule asked.user_defined files directories blocks before after ts ps
      × ComesOf rule asked file first fields ts (length blocks) ps (made_of outcome))
      → IfOk result (λ outcome. ComesOfBlocks rule asked files directories file first fields blocks before after (made_of outcome))
  none_comes first fields blocks before after (Ok outcome) none h = inr (none, h.0, h.1, h.2, h.3)
  none_comes first fields blocks before after (Err e) none h = tt

  -- of blocks of which one is termcap
  pub some_comes : (first at : ℕ) (fields : List (Option (List ℕ))) (blocks : List (List ℕ)) (before after : ℕ) (result : Result TicOutcome E) → IsFirstTermcap blocks (Some at)
      → after ≡ before
      → IfOk result (λ outcome. made_of outcome ≡ termcap_refusal file first blocks at)
      → IfOk result (λ outcome. ComesOfBlocks rule asked files directories file first fields blocks before after (made_of outcome))
  some_comes first at fields blocks before after (Ok outcome) is same h = inl (at, is, same, h)
  some_comes first at fields blocks before after (Err e) is same h = tt

module _ {E : Type 0} (asked : Asked) (files : Option Files) (directories : List (List ℕ)) (file : List ℕ) where
  -- of a source that a database takes
  pub plain_comes : (rule : Rule) (source : List ℕ) (before after first : ℕ) (texts : List (List ℕ)) (result : Result TicOutcome E)
      → rule ≡ OwnFirst → texts ≡ source_texts source → AreTaken (source_texts source) → first ≡ first_line source
      → IfOk result (λ outcome. ComesOfBlocks rule asked files directories file first (map long_field texts) (map fitted texts) before after (made_of outcome))
      → IfOk result (λ outcome. ComesOfPlain asked files directories file source before after (made_of outcome))
  plain_comes rule source before after first texts (Ok outcome) ruled held taken number h =
      let by_rule = subst (λ (r : Rule). ComesOfBlocks r asked files directories file first (map long_field texts) (map fitted texts) before after (made_of outcome)) ruled h in
      let by_texts = subst (λ (xs : List (List ℕ)). ComesOfBlocks OwnFirst asked files directories file first (map long_field xs) (map fitted xs) before after (made_of outcome))
      held by_rule in
      let by_line = subst (λ (n : ℕ). ComesOfBlocks OwnFirst asked files directories file n (map long_field (source_texts source)) (map fitted (source_texts source))
      before after (made_of outcome)) number by_texts in
      inr (taken, by_line)
  plain_comes rule source before after first texts (Err e) ruled held taken number h = tt

  -- of a source as it is read
  pub read_plain : (source text : List ℕ) (before after : ℕ) (result : Result TicOutcome E) → text ≡ plain_source source
      → IfOk result (λ outcome. ComesOfPlain asked files directories file text before after (made_of outcome))
      → IfOk result (Comes asked files directories file source before after)
  read_plain source text before after (Ok outcome) is h =
      subst (λ (t : List ℕ). ComesOfPlain asked files directories file t before after (made_of outcome)) is h
  read_plain source text before after (Err e) is h = tt

-- ---- blocks with long names fields

-- of blocks that are fitted
pub fitted_comes : {E : Type 0} (rule old : Rule) (asked : Asked) (files : Option Files) (directories : List (List ℕ)) (file : List ℕ) (first before after : ℕ)
    (fields seen : List (Option (List ℕ))) (texts blocks : List (List ℕ)) (result : Result TicOutcome E) → rule ≡ old → seen ≡ fields → blocks ≡ texts
    → IfOk result (λ outcome. ComesOfBlocks rule asked files directories file first seen blocks before after (made_of outcome))
    → IfOk result (λ outcome. ComesOfBlocks old asked files directories file first fields texts before after (made_of outcome))
fitted_comes rule old asked files directories file first before after fields seen texts blocks result ruled these held h =
    subst (λ (r : Rule). IfOk result (λ outcome. ComesOfBlocks r asked files directories file first fields texts before after (made_of outcome))) ruled
    (subst (λ (fs : List (Option (List ℕ))).
    IfOk result (λ outcome. ComesOfBlocks rule asked files directories file first fs texts before after (made_of outcome))) these
    (subst (λ (ts : List (List ℕ)).
    IfOk result (λ outcome. ComesOfBlocks rule asked files directories file first seen ts before after (made_of outcome))) held h))

-- What the rules by which a block is read make of its mentions: in which order its own ones stand,
-- and what it passes on of those of its uses.
use Rattle.std.proofs.Common.{◌≡◌, List, [], ◌∷◌, ◌++◌, Option, Some, None, refl, ap, sym, append_assoc}
use Rattle.std.specs.List.{AllByRecursion}
use Rattle.std.specs.Option.{option_or}
use Rattle.ti_text.specs.Lists.{both_lists}
use Rattle.ti_source.specs.declared.parsing.Rule.{Rule}
use Rattle.ti_source.specs.declared.parsing.Rule.TheVariants.{Leftmost, OwnFirst}
use Rattle.ti_layout.specs.Laws.{without_cancel}
use Rattle.ti_layout.specs.Values.{Content}
use Rattle.tools_relisting.proofs.Compiling.{uncancelled-twice}

-- a list from the last to the first
abbrev pub last_first : {X : Type 0} → List X → List X
last_first [] = []
last_first (x ∷ xs) = last_first xs ++ x ∷ []

-- what a block passes on of what its uses say
abbrev pub kept : Rule → Option Content → Option Content
kept Leftmost o = o
kept OwnFirst o = without_cancel o

pub kept-nothing : (rule : Rule) → kept rule None ≡ None
kept-nothing Leftmost = refl
kept-nothing OwnFirst = refl

-- once a cancel is nothing, that is what they say
pub kept-plain : (rule : Rule) (own theirs : Option Content) → without_cancel (option_or own (kept rule theirs)) ≡ without_cancel (option_or own theirs)
kept-plain Leftmost own theirs = refl
kept-plain OwnFirst None theirs = uncancelled-twice theirs
kept-plain OwnFirst (Some x) theirs = refl

pub or-nothing : (o : Option Content) → option_or o None ≡ o
or-nothing None = refl
or-nothing (Some x) = refl

pub both-parts : {X : Type 0} (P : X → Type 0) (xs ys : List X) → AllByRecursion P xs → AllByRecursion P ys → AllByRecursion P (xs ++ ys)
both-parts P [] ys all more = more
both-parts P (x ∷ xs) ys all more = (all.0, both-parts P xs ys all.1 more)

-- ---- lists that are there, one after the other

pub joined-assoc : {X : Type 0} (a b c : Option (List X)) → both_lists a (both_lists b c) ≡ both_lists (both_lists a b) c
joined-assoc None b c = refl
joined-assoc (Some xs) None c = refl
joined-assoc (Some xs) (Some ys) None = refl
joined-assoc (Some xs) (Some ys) (Some zs) = ap (λ ws. Some ws) (sym (append_assoc xs ys zs))

pub joined-nothing : {X : Type 0} (later : Option (List X)) → later ≡ both_lists (Some []) later
joined-nothing None = refl
joined-nothing (Some xs) = refl

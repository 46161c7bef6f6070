use Rattle.std.proofs.Common.{ℕ, List, length, sym, ap, ◌∙◌, subst, arith}
use Rattle.ti_layout.specs.Values.{HasNoNul}
use Rattle.ti_compiled.proofs.Heading.{found_in, named_in}
use Rattle.ti_compiled.proofs.header.names_of.Goals as goal

pub slice_bounds-result-end : goal.slice_bounds-result-end
slice_bounds-result-end c =
    let n = named_in c.args.bytes.now c.requires c.word.result c.word.ensures.value in
    let s = n.some in
    let w = n.within in
    omega arith

pub returns-clause-names : goal.returns-clause-names
returns-clause-names c = (named_in c.args.bytes.now c.requires c.word.result c.word.ensures.value).are

pub returns-clause-no_nul : goal.returns-clause-no_nul
returns-clause-no_nul c = subst HasNoNul (sym (named_in c.args.bytes.now c.requires c.word.result c.word.ensures.value).are) c.requires.imaged.no_nul

pub returns-clause-short : goal.returns-clause-short
returns-clause-short c =
    let e = ap (λ (x : List ℕ). length x) (named_in c.args.bytes.now c.requires c.word.result c.word.ensures.value).are in
    let s = c.requires.imaged.short in
    omega arith

pub word-requires : goal.word-requires
word-requires c = let f = found_in c.args.bytes.now c.requires in let long = f.whole in omega arith

pub returns-clause-present : goal.returns-clause-present
returns-clause-present c = λ none.
    let e = ap (λ (x : List ℕ). length x) (sym (named_in c.args.bytes.now c.requires c.word.result c.word.ensures.value).are ∙ none) in
    let s = c.requires.imaged.some in
    omega arith

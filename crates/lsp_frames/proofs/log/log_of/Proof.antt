-- `log_of` makes the struct without fields, with the list that its clause names. Assumes
-- `Logic`.
use Rattle.std.proofs.Common.{List, [], ◌∷◌, refl}
use seplogic.Ra.Ura.{Ura}
use mir.MapTy.{inst_fn}
use mir.Syntax.{Dict, Fn, a_type, dcons, dnil}
use mir.Val.{Val, vstruct, vnil}
use base.Logic.{SProp, ent}
use prog.Memory.{Memory}
use prog.Routine.{Routine}
use prog.Wp.{Calls, Loops, WpFn, Tables}
use contract.Monad.{Fun}
use contract.Running.{tables, tables_of}
use sound.WpLaws.{WpFn-mono}
use types.Logic.{Logic}
use types.Kit.{Goal, Step, step, Item, ‵, raw, ◌⊛◌, ◌$◌, ◌∵◌, !, qed, move, keep, split, fjoin, fpack, feq_i, suffices, done}
use types.Part.{agg}
use types.Run.{enter, returns, no_more}
use types.ByLocal.{alloc_all, pass_all, free_all, look_at, sets}
use denote.Param.{bounded}
use denote.RattleType.{RattleType, Valss, owns}
use denote.Signature.{types_at}
use denote.Steps.{nothing}
use denote.Struct.Struct.{Struct, within}
use denote.Triple.Clauses.{Clauses, Ended, closing}
use denote.Triple.Entry.{alive}
use denote.Triple.Spec.{Meets, triple_of}
use denote.Triple.Table.{entered}
use denote.Triple.Walked.{says, Stays, walk_of, ends_at, walk_Meets}
use Rattle.lsp_frames.specs.contracts.log.Log as Log
use Rattle.lsp_frames.specs.declared.log.Pieces as Pieces
use Rattle.lsp_frames.specs.contracts.log.log_of as F
use Rattle.lsp_frames.specs.contracts.log.log_of.Key.{name as #self}
use Rattle.lsp_frames.proofs.log.log_of.Statement as stated
use Rattle.lsp_frames.proofs.log.log_of.Code as code

-- the value of a struct without fields, which may be made of nothing
abbrev bare : RattleType
bare = Struct (record { name = []; args = []; types = []; fields = [] })

abbrev empty : Val
empty = vstruct vnil

module _ {M : Type 1} {𝓤 : Ura M} {𝓛 : Logic 𝓤} {K : Type 0} {Γ : List (Item 𝓤)} {G : Goal 𝓤 𝓛.H} where
  made : K → Step K 𝓛 (‵ (bare.own_val tt (empty ∷ [])) ∷ Γ) G Γ G
  made t = step (λ s.
      nothing t $ feq_i t (List Val) (empty ∷ []) (empty ∷ []) refl $ fjoin t $
      fpack t (Valss []) (within (record { name = []; args = []; types = []; fields = [] }) tt (empty ∷ [])) tt $ s)

module _ (N : RattleType) (of : Pieces.Ghosts N.Denot) (d : Dict) where
  abbrev ended : Ended
  ended = F.ended N of d

  abbrev stayed : Stays ended.signature.params ended.kept
  stayed = tt

  abbrev function : Fn
  function = inst_fn (bounded (a_type ∷ []) (N, tt) (dcons d dnil)) code.function

  module _ {M : Type 1} {𝓤 : Ura M} (𝓛 : Logic 𝓤) (at_mem : Memory → SProp 𝓤) (run : Routine → Fun 𝓤) where
    open 𝓛 use {H}

    abbrev held : Clauses 𝓤 ended
    held = F.clauses N of d 𝓛 at_mem run

    module _ (C : Calls 𝓤 H) (Λ : Loops 𝓤 H) (z : (walk_of 𝓛 ended stayed held).Ghost) where
      abbrev Post : Val → SProp 𝓤
      Post = (walk_of 𝓛 ended stayed held).post z

      abbrev toks : SProp 𝓤
      toks = alive 𝓛 ended.signature z.0.0 z.0.1

      walks : ent 𝓤 ((walk_of 𝓛 ended stayed held).pre z) (WpFn 𝓤 H C Λ function ((walk_of 𝓛 ended stayed held).args z) Post)
      walks =
          let a = z.0.3 in
          let vss = z.0.4 in
          let value : Log.the_row.Denot = record { pieces = of.pieces } in
          qed 𝓛 ((raw toks ⊛ ‵ (owns (types_at ended.signature.params z.0.0) a vss)) ∷ raw ((held z.0.0 a).requires z.1) ∷ []) ∵
          keep ! (0 ∷ []) $ split ! $ keep ! (0 ∷ []) $
          enter ! C Λ function [] Post $ alloc_all ! (λ l. pass_all ! refl tt $
          sets ! (agg ! (no_more !)) refl (tt, tt) $
          nothing ! $ made ! $ fjoin ! $
          returns ! (look_at ! 0 refl) $ free_all ! refl $
          suffices ! _ (ends_at 𝓛 ended stayed held z empty value tt tt) $ says ! refl $
          nothing ! $ move ! (2 ∷ 0 ∷ 1 ∷ []) $ done !)

    meets : (𝓣 : Tables 𝓤 H) → Meets 𝓛 ended.signature (WpFn 𝓤 H 𝓣.C 𝓣.Λ function) (closing 𝓛 ended held)
    meets 𝓣 =
        walk_Meets 𝓛 ended stayed tt held
        (WpFn 𝓤 H 𝓣.C 𝓣.Λ function) (WpFn-mono 𝓤 H 𝓛.laws 𝓣 function) (walks 𝓣.C 𝓣.Λ)

pub log_of_spec : {M : Type 1} → stated.statement M
unfolding tables_of
log_of_spec 𝓤 𝓛 𝓜 𝓡 wired N laws of d met =
    let 𝓣 : Tables 𝓤 𝓛.H = tables_of 𝓤 𝓛.H 𝓜 (tables 𝓤 𝓛.H 𝓜 𝓡 𝓡.env) in
    entered 𝓤 𝓛.H (triple_of 𝓛 (ended N of d).signature (closing 𝓛 (ended N of d) (held N of d 𝓛 𝓜.mem 𝓡.returns))) 𝓣.C 𝓣.Λ
    (#self (bounded (a_type ∷ []) (N, tt) (dcons d dnil))) (function N of d)
    (code.unfolded 𝓤 𝓛.H 𝓜 𝓡 wired (N, tt) d) (meets N of d 𝓛 𝓜.mem 𝓡.returns 𝓣)

-- A load, a request and a leave lead to records that calls can lead to. Assumes nothing.
use Rattle.std.proofs.Common.{sym, subst, le_refl, arith}
use Rattle.std.specs.Prelude.{ℕ, false, take, Option, refl}
use Rattle.std.proofs.lemmas.List.{length-replicate}
use Rattle.std.specs.Option.{unwrap_or}
use Rattle.cells.specs.declared.mark.Mark.TheVariants.{Empty}
use Rattle.rules.specs.Lawful.{Sized, LawfulIdentity, Holds}
use Rattle.rules.specs.Records.{loaded_agent, going, on_rung}
use Rattle.rules.specs.declared.agent.Agent.{Agent}
use Rattle.rules.specs.declared.agent.Section.TheVariants.{Leaving}
use Rattle.rules.proofs.ReplaceLaws.{lawful_nothing}
use Rattle.rule_ladder.specs.declared.phase.LadderPhase.{LadderPhase}
use Rattle.rule_ladder.specs.declared.phase.LadderPhase.TheVariants.{Seek, Drop}
use Rattle.rule_ladder.specs.Ladder.{ladder_asked, ladder_left, SectionFits, LadderReachable}
use Rattle.rule_ladder.specs.FlagLaws.{lowest_found, found_name}

pub loads_reachable : (n m i : ℕ) → Sized n m → LawfulIdentity i → LadderReachable n m (loaded_agent Seek i)
loads_reachable n m i size good = record {
  identity_fits = good;
  seen_fits = lawful_nothing 64;
  seen_all = length-replicate 64 Empty;
  flags_all = length-replicate 64 false;
  name_fits = (le_refl 1, size.cells_low);
  phase_fits = tt;
  section_fits = (refl, refl);
}

pub asks_reachable : (n m : ℕ) (a : Agent LadderPhase) → Sized n m → LadderReachable n m a → LadderReachable n m (ladder_asked n m a)
asks_reachable n m a size h = record {
  identity_fits = h.identity_fits;
  seen_fits = h.seen_fits;
  seen_all = h.seen_all;
  flags_all = length-replicate 64 false;
  name_fits = (le_refl 1, size.cells_low);
  phase_fits = tt;
  section_fits = tt;
}

pub leaves_reachable : (n m : ℕ) (a : Agent LadderPhase) → Sized n m → LadderReachable n m a → Holds a → LadderReachable n m (ladder_left n m a)
leaves_reachable n m a size h holds =
    let held = subst (λ s. SectionFits s m a) holds h.section_fits in
    let some = lowest_found (take m a.flags) (omega (arith, held.2, size.cells_low)) in
    let found = found_name a.flags m 1 some.0 (omega (arith, h.flags_all, size.cells_high)) (le_refl 1) some.2 in
    let P : Option ℕ → Type 0 = λ o. LadderReachable n m (going (on_rung a 0) Leaving Drop (unwrap_or o 1)) in
    subst P (sym some.1) (record {
      identity_fits = h.identity_fits;
      seen_fits = h.seen_fits;
      seen_all = h.seen_all;
      flags_all = h.flags_all;
      name_fits = found.0;
      phase_fits = found.1;
      section_fits = refl;
    })

use Rattle.std.proofs.Common.{sym, ◌∙◌}
use Rattle.rig.specs.Worlds.{rig_of}
use Rattle.rig.proofs.CallLaws.{unheard_agent, unheard_standoff, unheard_late, heard_now, within_mapped}
use Rattle.rig.proofs.rig.Rig.check_hearing.Goals as goal

pub returns-then-not-is_name : goal.returns-then-not-is_name
returns-then-not-is_name g c = record {
  value = sym (unheard_agent (rig_of c.args.self.now) c.args.k (c.if-not-is_name.ensures.value ∙ within_mapped _ _ _ c.args.k c.count.ensures.value));
  early = tt;
}

pub returns-then-is_some : goal.returns-then-is_some
returns-then-is_some g c = record {
  value = sym (unheard_standoff (rig_of c.args.self.now) c.args.k (c.if-not-is_name.ensures.value ∙ within_mapped _ _ _ c.args.k c.count.ensures.value) c.if-is_some.ensures);
  early = tt;
}

pub returns-then-self-ge-MOST_HEARD : goal.returns-then-self-ge-MOST_HEARD
returns-then-self-ge-MOST_HEARD g c = record {
  value =
      sym
      (unheard_late (rig_of c.args.self.now) c.args.k (c.if-not-is_name.ensures.value ∙ within_mapped _ _ _ c.args.k c.count.ensures.value) c.if-is_some.ensures
      c.if-self-ge-MOST_HEARD.true);
  early = tt;
}

pub returns : goal.returns
returns g c = record {
  value =
      sym
      (heard_now (rig_of c.args.self.now) c.args.k (c.if-not-is_name.ensures.value ∙ within_mapped _ _ _ c.args.k c.count.ensures.value) c.if-is_some.ensures
      c.if-self-ge-MOST_HEARD.false);
  early = c.if-self-ge-MOST_HEARD.false;
}

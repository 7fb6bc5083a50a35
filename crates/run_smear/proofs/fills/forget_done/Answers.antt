use Rattle.std.proofs.Common.{rules, ◌≡◌, arith}
use Rattle.std.specs.Prelude.{nat_lt}
use Rattle.std.specs.List.{filter}
use Rattle.std.proofs.lemmas.Bool.{lt-ltb}
use Rattle.std.proofs.lemmas.Fn.{filter_same}
use Rattle.run_smear.specs.declared.fills.Fill.{Fill}
use Rattle.run_smear.specs.Columns.{fill_at}
use Rattle.run_smear.proofs.Filling.{filtered_kept, filtered_only, filtered_within}
use Rattle.run_smear.proofs.fills.forget_done.Goals as goal

pub returns-clause-kept : goal.returns-clause-kept
returns-clause-kept c = λ k top foot has below.
    let are : c.retain.new.self.items ≡ filter (λ (g : Fill). nat_lt c.args.y g.foot) c.args.fills.now.items = filter_same _ _ _ (λ x b f' k. search rules) _ _ c.retain.ensures.filtered in
    filtered_kept (λ (g : Fill). nat_lt c.args.y g.foot) c.args.fills.now.items c.retain.new.self.items are k top foot has
    (lt-ltb c.args.y (fill_at c.args.fills.now.items has.place).foot (omega (arith, below, has.foot_is)))

pub returns-clause-only : goal.returns-clause-only
returns-clause-only c =
    let are : c.retain.new.self.items ≡ filter (λ (g : Fill). nat_lt c.args.y g.foot) c.args.fills.now.items = filter_same _ _ _ (λ x b f' k. search rules) _ _ c.retain.ensures.filtered in
    filtered_only (λ (g : Fill). nat_lt c.args.y g.foot) c.args.fills.now.items c.retain.new.self.items are

pub returns-clause-slim : goal.returns-clause-slim
returns-clause-slim c =
    let are : c.retain.new.self.items ≡ filter (λ (g : Fill). nat_lt c.args.y g.foot) c.args.fills.now.items = filter_same _ _ _ (λ x b f' k. search rules) _ _ c.retain.ensures.filtered in
    filtered_within (λ (g : Fill). nat_lt c.args.y g.foot) c.args.fills.now.items c.retain.new.self.items are

use Rattle.std.proofs.Common.{refl}
use Rattle.frontier_turn.proofs.Moves.{reads, raises, takes_the_turn, gives_the_turn}
use Rattle.frontier_turn.proofs.Passes.{opens, splits, joins}
use Rattle.frontier_turn.proofs.law.each_step_keeps_the_rule.Goals as goal

pub returns : goal.returns
returns g c =
    let S = g.S.Space in
    record {
      begins = λ p root frontier is_root opened leased. opens p (S.admits p) (S.lies_in p) (S.fits p) frontier root is_root opened leased;
      take = λ p id pass live idle. takes_the_turn S.admits S.lies_in S.fits p 1 id pass live.problem_is live.parts idle refl 1 0;
      give = λ p id view frontier live holds back. gives_the_turn S.admits S.lies_in S.fits p 1 id view frontier live.problem_is live.parts holds back refl 0 0;
      others = record {
        read = λ p id pass live. reads S.admits S.lies_in S.fits p 1 id pass live.problem_is live.parts 0 0;
        raise = λ p id key pass live admitted. raises S.admits S.lies_in S.fits p 1 id pass live.problem_is live.parts key 0 admitted;
        split = λ p id view several idle. splits p (S.admits p) (S.lies_in p) (S.fits p) id view several idle;
        join = λ p id other view spent live live' idle idle' unnamed. joins p (S.admits p) (S.lies_in p) (S.fits p) id view other spent live.parts live'.parts idle idle' unnamed;
      };
    }

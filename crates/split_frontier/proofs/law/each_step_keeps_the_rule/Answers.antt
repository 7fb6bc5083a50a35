use Rattle.std.proofs.Common.{refl}
use Rattle.split_frontier.proofs.Moves.{reads, raises}
use Rattle.split_frontier.proofs.Taking.{takes_the_turn}
use Rattle.split_frontier.proofs.Giving.{gives_the_turn}
use Rattle.split_frontier.proofs.Passes.{opens, splits, joins}
use Rattle.split_frontier.proofs.law.each_step_keeps_the_rule.Goals as goal

pub returns : goal.returns
returns g c =
    let S = g.S.Space in
    let laws = g.met.S.Space g.world.𝓛 g.world.𝓜 g.world.𝓡 ((λ s a. a), (λ h. h), (λ n. n), (λ h. h)) in
    record {
      begins = λ p nodes words slots covering opening long zeros. opens p (S.admits p) (S.lies_in p) (S.fits p) (laws.positive p) (laws.bounded p) words slots nodes covering opening long zeros;
      take = λ p shards id shard pass live idle there. takes_the_turn p (S.admits p) (S.lies_in p) S.fits shards id pass live.problem_is live.parts shard idle there _ 1 0 refl;
      give = λ p shards id shard view parked live holds there back. gives_the_turn p (S.admits p) (S.lies_in p) (S.fits p) shards id shard view parked live.problem_is live.parts holds back there _ 0 0 refl;
      others = λ shards. record {
        read = λ p id pass live. reads S.admits S.lies_in S.fits p shards id pass live.problem_is live.parts 0 0;
        raise = λ p id key pass live admitted. raises S.admits S.lies_in S.fits p shards id pass live.problem_is live.parts key 0 admitted;
        split = λ p id view several idle. splits p (S.admits p) (S.lies_in p) (S.fits p) id view several idle;
        join = λ p id other view spent live live' idle idle' unnamed. joins p (S.admits p) (S.lies_in p) (S.fits p) id view other spent live.parts live'.parts idle idle' unnamed;
      };
    }

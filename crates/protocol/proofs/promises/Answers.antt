use Rattle.protocol.proofs.Promised.{kept}
use Rattle.protocol.proofs.BoardSteps.{board_new, board_steps}
use Rattle.protocol.proofs.FetcherSteps.{fetcher_new, fetcher_steps}
use Rattle.protocol.proofs.Sample.{possible}
use Rattle.protocol.proofs.promises.Goals as goal

pub returns : goal.returns
returns c = record {
  kept = kept;
  stepwise =
      λ S.
      record {
        board_new = board_new S;
        board_steps = board_steps S;
        fetcher_new = fetcher_new S;
        fetcher_steps = λ laws h m. fetcher_steps S h m laws;
      };
  possible = possible;
}

-- `putting::put_word` meets its contract: the lent part comes back as the word.
use native.Mathlib.Nat.{add-sub_cancel_left}
use Rattle.putting.proofs.Written.{put-part}
use mathlib.Core.Path.{refl}
use lib.ListN.{length}
use Rattle.putting.proofs.put_word.Goals as goal

pub returns : goal.returns
returns c =
    record {
      ends = refl;
      puts = put-part c.args.at (length c.args.word.now) _ c.args.out.now _ _
          (add-sub_cancel_left c.args.at _) c.copy_bytes.ensures;
    }

-- What hands answers to requests may go to another thread.
use denote.Param.Send.{IsSend, IsSync, sendable}
use denote.RattleType.{RattleType}
use denote.Ref.{NamedLft}
use Rattle.std.proofs.Crossing.{crosses}
use Rattle.lb_doh.proofs.posts.HttpPosts.TheSendSync.{the_send}
use Rattle.lb_doh.specs.contracts.posts.HttpPosts as Posts

module _ (a : NamedLft) (R : RattleType) where
  pub posts_send : IsSync R → IsSend (Posts.the_row a R)
  posts_send r_sync = search (the_send, sendable, crosses) depth 40 fits 10000

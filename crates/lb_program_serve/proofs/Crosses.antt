-- The console may go to another thread, and so may the services by HTTP.
use denote.Param.Send.{IsSend, IsSync, sendable}
use denote.RattleType.{RattleType}
use denote.Ref.{NamedLft}
use Rattle.std.proofs.Crossing.{crosses}
use Rattle.std.specs.declared.sync.ledger.Ledger as Ledger
use Rattle.lb_program_serve.proofs.console.Console.TheSendSync.{the_send}
use Rattle.lb_program_serve.proofs.threads.Fronting.TheSendSync.{the_send as the_front_send}
use Rattle.lb_program_serve.proofs.threads.Services.TheSendSync.{the_send as the_services_send}
use Rattle.lb_desk.specs.contracts.desk.Desk as Desk
use Rattle.lb_desk.specs.declared.naming.Naming as Naming
use Rattle.lb_recent.specs.contracts.ring.Ring as Ring
use Rattle.lb_sends.specs.contracts.sends.Sends as Sends
use Rattle.lb_program_serve.specs.contracts.console.Console as Console
use Rattle.lb_program_serve.specs.contracts.pages.DeskPage as DeskPage
use Rattle.lb_program_serve.specs.contracts.threads.Fronting as Fronting
use Rattle.lb_program_serve.specs.contracts.threads.Services as Services

module _ (a : NamedLft) (R T O : RattleType) where
  pub console_send : IsSend Ring.the_row → IsSync Ring.the_row → IsSend Sends.the_row → IsSync Sends.the_row → IsSync R → IsSend T → IsSend O → IsSend (Console.the_row a R T O)
  console_send ring_send ring_sync sends_send sends_sync r_sync t_send o_send = search (the_send, sendable, crosses) depth 40 fits 60000

module _ (T O : RattleType) where
  pub front_send : IsSend Sends.the_row → IsSync Sends.the_row → IsSend T → IsSend O → IsSend (Fronting.the_row T O)
  front_send sends_send sends_sync t_send o_send = search (the_front_send, sendable, crosses) depth 40 fits 60000

module _ (T O G : RattleType) where
  pub services_send : IsSend Sends.the_row → IsSync Sends.the_row → IsSend T → IsSend O → IsSend G → IsSend (Services.the_row T O G)
  services_send sends_send sends_sync t_send o_send g_send = search (the_services_send, sendable, crosses) depth 40 fits 60000

module _ (a : NamedLft) (R T : RattleType) (n : Naming.Ghosts T.Denot) (l : Ledger.Ghosts T.Denot) where
  pub page_send : IsSync R → IsSync (Desk.the_row T n l) → IsSend Ring.the_row → IsSync Ring.the_row → IsSend Sends.the_row → IsSync Sends.the_row → IsSend (DeskPage.the_row a R T n l)
  page_send r_sync desk_sync ring_send ring_sync sends_send sends_sync = search (sendable, crosses) depth 40 fits 60000

-- The numbers of response codes, kinds of query and faults.
use Rattle.std.specs.Prelude.{ℕ}
use Rattle.lb_wire.specs.declared.rcode.Rcode.{Rcode}
use Rattle.lb_wire.specs.declared.rcode.Rcode.TheVariants as rcodes
use Rattle.lb_wire.specs.declared.opcode.Opcode.{Opcode}
use Rattle.lb_wire.specs.declared.opcode.Opcode.TheVariants as opcodes
use Rattle.lb_wire.specs.declared.query.QueryFault.{QueryFault}
use Rattle.lb_wire.specs.declared.query.QueryFault.TheVariants as faults
use Rattle.lb_wire.specs.declared.reply.ReplyFault.{ReplyFault}
use Rattle.lb_wire.specs.declared.reply.ReplyFault.TheVariants as reply_faults

-- the number of a response code (RFC 1035 section 4.1.1; IANA's table of DNS RCODEs)
abbrev pub rcode_number : Rcode → ℕ
rcode_number rcodes.NoError = 0
rcode_number rcodes.FormErr = 1
rcode_number rcodes.ServFail = 2
rcode_number rcodes.NXDomain = 3
rcode_number rcodes.NotImp = 4
rcode_number rcodes.Refused = 5
rcode_number rcodes.YXDomain = 6
rcode_number rcodes.YXRRSet = 7
rcode_number rcodes.NXRRSet = 8
rcode_number rcodes.NotAuth = 9
rcode_number rcodes.NotZone = 10
rcode_number rcodes.DsoTypeNI = 11
rcode_number rcodes.Unassigned12 = 12
rcode_number rcodes.Unassigned13 = 13
rcode_number rcodes.Unassigned14 = 14
rcode_number rcodes.Unassigned15 = 15

-- the number of a kind of query (RFC 1035 section 4.1.1; IANA's table of DNS OpCodes)
abbrev pub opcode_number : Opcode → ℕ
opcode_number opcodes.Query = 0
opcode_number opcodes.IQuery = 1
opcode_number opcodes.Status = 2
opcode_number opcodes.Unassigned3 = 3
opcode_number opcodes.Notify = 4
opcode_number opcodes.Update = 5
opcode_number opcodes.Dso = 6
opcode_number opcodes.Unassigned7 = 7
opcode_number opcodes.Unassigned8 = 8
opcode_number opcodes.Unassigned9 = 9
opcode_number opcodes.Unassigned10 = 10
opcode_number opcodes.Unassigned11 = 11
opcode_number opcodes.Unassigned12 = 12
opcode_number opcodes.Unassigned13 = 13
opcode_number opcodes.Unassigned14 = 14
opcode_number opcodes.Unassigned15 = 15

-- the number that texts give a query's fault
abbrev pub query_fault_number : QueryFault → ℕ
query_fault_number faults.Short = 1
query_fault_number faults.NotQuery = 2
query_fault_number faults.Malformed = 3

-- the number that texts give a reply's fault
abbrev pub reply_fault_number : ReplyFault → ℕ
reply_fault_number reply_faults.Short = 1
reply_fault_number reply_faults.NotReply = 2

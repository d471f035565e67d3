pub mod HandoverNet

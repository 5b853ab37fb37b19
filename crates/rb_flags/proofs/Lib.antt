pub mod OneFlag
